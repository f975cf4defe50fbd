use Rattle.std.proofs.Common.{rules, ◌≡◌, true, false, sym, ap, ◌∙◌, arith, Some}
use Rattle.xm_book.specs.Fronts.{has_kind}
use Rattle.xm_book.specs.Queued.{is_of_level, orders_of_level, units_in}
use Rattle.xm_book.proofs.Standing.{all-active, level-of, units-bound, units-inactive}
use Rattle.xm_book.proofs.order_queues.OrderQueues.units_in.Goals as goal
use Rattle.xm_ladders.specs.Ladder.{level_of}
use Rattle.xm_ladders.specs.Ladders.{ladder_on, level_on, side_of}
use Rattle.xm_rules.specs.Active.{is_active}

pub returns-then-not-is_active-clause-units : goal.returns-then-not-is_active-clause-units
returns-then-not-is_active-clause-units g c =
    let off : is_active c.args.phase c.args.restriction ≡ false = search rules in
    sym (units-inactive c.args.phase c.args.side c.args.restriction (has_kind c.args.kind.now) c.args.self.now.orders off)

pub returns-in-Some-clause-units : goal.returns-in-Some-clause-units
returns-in-Some-clause-units g c =
    let q = c.self.inside in
    let on : is_active c.args.phase c.args.restriction ≡ true = search rules in
    let level : level_on (side_of c.args.side q.ladders) c.args.restriction c.args.kind.now ≡ Some c.in-Some.level =
    (λ i. level_of (ladder_on c.args.restriction (sym c.of.ensures i)) c.args.kind.now) ∙ ap (λ l. level_of l c.args.kind.now) (sym c.of-2.ensures) ∙ sym c.level.ensures ∙ c.in-Some.is in
    let held = level-of q.links (level_on (side_of c.args.side q.ladders) c.args.restriction c.args.kind.now) c.in-Some.level (orders_of_level c.args.side c.args.restriction c.args.kind.now q.listing) (c.self.invariant.queued.levels c.args.side c.args.restriction c.args.kind.now) level in
    rw (← c.self.view_is)
    (held.units ∙ ap units_in (sym (all-active c.args.phase c.args.side c.args.restriction c.args.kind.now q.listing on)))

pub returns-in-Some-clause-few : goal.returns-in-Some-clause-few
returns-in-Some-clause-few g c =
    let q = c.self.inside in
    let level : level_on (side_of c.args.side q.ladders) c.args.restriction c.args.kind.now ≡ Some c.in-Some.level =
    (λ i. level_of (ladder_on c.args.restriction (sym c.of.ensures i)) c.args.kind.now) ∙ ap (λ l. level_of l c.args.kind.now) (sym c.of-2.ensures) ∙ sym c.level.ensures ∙ c.in-Some.is in
    let held = level-of q.links (level_on (side_of c.args.side q.ladders) c.args.restriction c.args.kind.now) c.in-Some.level (orders_of_level c.args.side c.args.restriction c.args.kind.now q.listing) (c.self.invariant.queued.levels c.args.side c.args.restriction c.args.kind.now) level in
    let most = units-bound (is_of_level c.args.side c.args.restriction c.args.kind.now) q.listing c.self.invariant.queued.small c.self.invariant.queued.few in
    omega (arith, held.units, most)

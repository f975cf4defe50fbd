use Rattle.std.proofs.Common.{rules, ◌≡◌, ◌*◌, true, false, sym, ap, ◌∙◌, arith}
use Rattle.xm_book.specs.Fronts.{has_limit_in}
use Rattle.xm_book.specs.Queued.{units_in}
use Rattle.xm_book.proofs.LevelSums.{is_of_range, units-of-range}
use Rattle.xm_book.proofs.Standing.{range-active, units-bound, units-inactive}
use Rattle.xm_book.proofs.order_queues.OrderQueues.units_between_in.Goals as goal
use Rattle.xm_ladders.specs.Ladder.{units_above}
use Rattle.xm_ladders.specs.Ladders.{ladder_on, side_of}
use Rattle.xm_price_maps.specs.Sums.{places_of}
use Rattle.xm_rules.specs.Active.{is_active}

pub returns-else-is_active-clause-units : goal.returns-else-is_active-clause-units
returns-else-is_active-clause-units g c =
    let off : is_active c.args.phase c.args.restriction ≡ false = search rules in
    sym (units-inactive c.args.phase c.args.side c.args.restriction (has_limit_in (c.args.group * places_of c.args.width) (places_of c.args.width)) c.args.self.now.orders off)

pub returns-then-is_active-clause-units : goal.returns-then-is_active-clause-units
returns-then-is_active-clause-units g c =
    let q = c.self.inside in
    let on : is_active c.args.phase c.args.restriction ≡ true = search rules in
    let low = c.args.group * places_of c.args.width in
    let n = places_of c.args.width in
    let ladder : c.of-then-is_active.result.now ≡ ladder_on c.args.restriction (side_of c.args.side q.ladders) = c.of-then-is_active.ensures ∙ ap (ladder_on c.args.restriction) c.of.ensures in
    rw (← c.self.view_is)
    (c.units_between.ensures ∙ ap (λ l. units_above l.limits low n) ladder ∙ units-of-range q.listing q.entries q.links q.ladders c.self.invariant.queued c.args.side c.args.restriction low n
    ∙ ap units_in (sym (range-active c.args.phase c.args.side c.args.restriction low n q.listing on)))

pub returns-then-is_active-clause-few : goal.returns-then-is_active-clause-few
returns-then-is_active-clause-few g c =
    let q = c.self.inside in
    let low = c.args.group * places_of c.args.width in
    let n = places_of c.args.width in
    let ladder : c.of-then-is_active.result.now ≡ ladder_on c.args.restriction (side_of c.args.side q.ladders) = c.of-then-is_active.ensures ∙ ap (ladder_on c.args.restriction) c.of.ensures in
    let is = c.units_between.ensures ∙ ap (λ l. units_above l.limits low n) ladder ∙ units-of-range q.listing q.entries q.links q.ladders c.self.invariant.queued c.args.side c.args.restriction low n in
    let most = units-bound (is_of_range c.args.side c.args.restriction low n) q.listing c.self.invariant.queued.small c.self.invariant.queued.few in
    omega (arith, is, most)

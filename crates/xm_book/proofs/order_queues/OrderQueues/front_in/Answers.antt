use Rattle.std.proofs.Common.{rules, ◌≡◌, true, refl, sym, ap, ◌∙◌, Some, None, option_copied}
use Rattle.xm_slots.specs.Slots.{get}
use Rattle.xm_slots.proofs.Tests.{same_some, some_none}
use Rattle.xm_book.proofs.Standing.{front-none, front-some}
use Rattle.xm_book.proofs.order_queues.OrderQueues.front_in.Goals as goal
use Rattle.xm_ladders.specs.Ladder.{level_of}
use Rattle.xm_ladders.specs.Ladders.{ladder_on, level_on, side_of}
use Rattle.xm_rules.specs.Active.{is_active}

pub returns-in_err-level : goal.returns-in_err-level
returns-in_err-level g c =
    let q = c.self.inside in
    let on : is_active c.args.phase c.args.restriction ≡ true = search rules in
    let none : level_on (side_of c.args.side q.ladders) c.args.restriction c.args.kind.now ≡ None =
    (λ i. level_of (ladder_on c.args.restriction (sym c.of.ensures i)) c.args.kind.now) ∙ ap (λ l. level_of l c.args.kind.now) (sym c.of-2.ensures) ∙ sym c.in_err-level.ensures in
    rw (c.from_residual.ensures, ← c.self.view_is)
    (front-none q.listing q.entries q.links q.ladders c.self.invariant.queued c.args.phase c.args.side c.args.restriction c.args.kind.now q.adds c.self.invariant.rise on none)

pub returns-in_err-key : goal.returns-in_err-key
returns-in_err-key g c =
    let q = c.self.inside in
    let on : is_active c.args.phase c.args.restriction ≡ true = search rules in
    let level : level_on (side_of c.args.side q.ladders) c.args.restriction c.args.kind.now ≡ Some c.in_ok-level.level =
    (λ i. level_of (ladder_on c.args.restriction (sym c.of.ensures i)) c.args.kind.now) ∙ ap (λ l. level_of l c.args.kind.now) (sym c.of-2.ensures) ∙ sym c.in_ok-level.ensures in
    rw (c.from_residual-in_err-key.ensures, ← c.self.view_is)
    (front-some q.listing q.entries q.links q.ladders c.self.invariant.queued c.args.phase c.args.side c.args.restriction c.args.kind.now q.adds c.self.invariant.rise on
    c.in_ok-level.level level None None c.in_err-key.ensures (λ n e. absurd (some_none (sym e))) (λ e. refl))

pub returns : goal.returns
returns g c =
    let q = c.self.inside in
    let on : is_active c.args.phase c.args.restriction ≡ true = search rules in
    let level : level_on (side_of c.args.side q.ladders) c.args.restriction c.args.kind.now ≡ Some c.in_ok-level.level =
    (λ i. level_of (ladder_on c.args.restriction (sym c.of.ensures i)) c.args.kind.now) ∙ ap (λ l. level_of l c.args.kind.now) (sym c.of-2.ensures) ∙ sym c.in_ok-level.ensures in
    rw (← c.self.view_is)
    (front-some q.listing q.entries q.links q.ladders c.self.invariant.queued c.args.phase c.args.side c.args.restriction c.args.kind.now q.adds c.self.invariant.rise on
    c.in_ok-level.level level (option_copied c.get.result) (Some c.in_ok-key.key) c.in_ok-key.ensures (λ n e. c.get.ensures ∙ ap (get q.entries) (same_some e)) (λ e. absurd (some_none e)))

use Rattle.std.proofs.Common.{◌≡◌, Some, sym, ap, ◌∙◌}
use Rattle.xm_price_maps.specs.Levels.{level_at}
use Rattle.xm_rules.specs.Sides.{reaches}
use Rattle.xm_stops.specs.Triggers.{queue_of}
use Rattle.xm_stops.proofs.Reaching.{front-reached, front-there, near-in-range, none-nearer, none-reached}
use Rattle.xm_stops.proofs.stop_queues.StopQueues.reached_on.Goals as goal

pub returns-in_err-trigger-clause-none : goal.returns-in_err-trigger-clause-none
returns-in_err-trigger-clause-none g c =
    let q = c.self.inside in
    let none = rw c.of-table.ensures at c.in_err-trigger.ensures.none in
    rw (c.from_residual.ensures, ← c.self.view_is) (none-reached q.listing q.entries q.links q.triggers c.self.invariant.queued c.args.side c.args.last (λ p reached. none p))

pub get-requires-2 : goal.get-requires-2
get-requires-2 g c =
    let q = c.self.inside in
    near-in-range q.listing q.entries q.links q.triggers c.self.invariant.queued c.args.side c.in_ok-trigger.trigger (rw c.of-table.ensures at c.in_ok-trigger.ensures.some)

pub returns-then-not-reaches-clause-none : goal.returns-then-not-reaches-clause-none
returns-then-not-reaches-clause-none g c =
    let q = c.self.inside in
    rw (← c.self.view_is) (none-nearer q.listing q.entries q.links q.triggers c.self.invariant.queued c.args.side c.in_ok-trigger.trigger c.args.last (rw c.of-table.ensures at c.in_ok-trigger.ensures.some)
    (c.if-not-reaches.ensures ∙ ap (λ n. reaches c.args.side n c.in_ok-trigger.trigger) c.get.ensures.value))

pub returns-clause-some : goal.returns-clause-some
returns-clause-some g c =
    let q = c.self.inside in
    let there : queue_of q.triggers c.args.side c.in_ok-trigger.trigger ≡ Some c.in_ok-get.field-0 = ap (λ t. level_at t c.in_ok-trigger.trigger) (sym c.of-table.ensures) ∙ sym c.in_ok-get.ensures in
    rw (← c.self.view_is) (front-reached q.listing q.entries q.links q.triggers c.self.invariant.queued c.args.side c.in_ok-trigger.trigger c.in_ok-get.field-0 there c.args.last
    (c.if-not-reaches.ensures ∙ ap (λ n. reaches c.args.side n c.in_ok-trigger.trigger) c.get.ensures.value) c.front.result c.front.ensures)

pub returns-clause-none : goal.returns-clause-none
returns-clause-none g c =
    let q = c.self.inside in
    let there : queue_of q.triggers c.args.side c.in_ok-trigger.trigger ≡ Some c.in_ok-get.field-0 = ap (λ t. level_at t c.in_ok-trigger.trigger) (sym c.of-table.ensures) ∙ sym c.in_ok-get.ensures in
    front-there q.listing q.entries q.links q.triggers c.self.invariant.queued c.args.side c.in_ok-trigger.trigger c.in_ok-get.field-0 there _ c.front.result c.front.ensures

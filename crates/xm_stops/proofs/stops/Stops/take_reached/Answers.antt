use Rattle.xm_slots.proofs.Naming.{items-kept}
use Rattle.std.proofs.Common.{◌≡◌, not, filter, [], refl, ap, ◌∙◌}
use Rattle.xm_rules.specs.Settling.{is_reached}
use Rattle.xm_rules.specs.declared.orders.Stop.{Stop}
use Rattle.xm_stops.specs.Queued.{has_reached}
use Rattle.xm_stops.proofs.Draining.{held-all, pending-same, seen-pending}
use Rattle.xm_stops.proofs.Indexing.{seen}
use Rattle.xm_stops.proofs.stops.Stops.take_reached.Goals as goal

pub returns-in-None-clause-held : goal.returns-in-None-clause-held
returns-in-None-clause-held g c =
    let b = c.self.inside in
    rw (← c.self.view_is)
    (ap seen (held-all (has_reached c.args.last) b.queues c.in-None.ensures.none) ∙ (λ i. record (seen b.queues) { stops = items-kept (λ (s : Stop). not (is_reached c.args.last s)) b.queues.stops i }))

pub returns-in-None-clause-pending : goal.returns-in-None-clause-pending
returns-in-None-clause-pending g c =
    let b = c.self.inside in
    let none : filter (has_reached c.args.last) b.queues.stops ≡ [] = c.in-None.ensures.none in
    let same = pending-same (has_reached c.args.last) b.queues none c.pending.inside.entries in
    rw (← c.self.view_is, ← c.pending.view_is)
    (seen-pending (is_reached c.args.last) b.queues c.pending.inside.entries c.pending.inside.entries same.0 same.1 refl)

pub returns-in-Some-clause-held : goal.returns-in-Some-clause-held
returns-in-Some-clause-held g c =
    let b = c.self.inside in
    rw (← c.self.view_is)
    (ap seen c.take_leaving.ensures.held ∙ (λ i. record (seen b.queues) { stops = items-kept (λ (s : Stop). not (is_reached c.args.last s)) b.queues.stops i }))

pub returns-in-Some-clause-pending : goal.returns-in-Some-clause-pending
returns-in-Some-clause-pending g c =
    let b = c.self.inside in
    rw (← c.self.view_is, ← c.pending.view_is)
    (seen-pending (is_reached c.args.last) b.queues c.pending.inside.entries c.take_leaving.new.pending c.take_leaving.ensures.pending c.take_leaving.ensures.room_left c.take_leaving.ensures.gone)

use Rattle.xm_slots.proofs.Naming.{items-kept}
use Rattle.xm_slots.specs.Listing.{listed_item}
use Rattle.std.proofs.Common.{◌≡◌, Bool, true, false, not, filter, map, refl, ap, ◌∙◌}
use Rattle.xm_rules.specs.Commands.{outlasts}
use Rattle.xm_rules.specs.declared.orders.Stop.{Stop}
use Rattle.xm_stops.proofs.Draining.{seen-pending}
use Rattle.xm_stops.proofs.Indexing.{seen}
use Rattle.xm_stops.proofs.stops.Stops.take_expired.Goals as goal

not-not : (b : Bool) → not (not b) ≡ b
not-not true = refl
not-not false = refl

pub returns-clause-held : goal.returns-clause-held
returns-clause-held g c =
    let b = c.self.inside in
    let today = c.args.today in
    rw (← c.self.view_is)
    (ap seen c.take_leaving.ensures.held ∙ (λ i. record (seen b.queues) { stops = items-kept (λ (s : Stop). not (not (outlasts today s.validity))) b.queues.stops i })
    ∙ (λ i. record (seen b.queues) { stops = filter (λ (s : Stop). not-not (outlasts today s.validity) i) (map listed_item b.queues.stops) }))

pub returns-clause-pending : goal.returns-clause-pending
returns-clause-pending g c =
    let b = c.self.inside in
    rw (← c.self.view_is, ← c.pending.view_is)
    (seen-pending (λ (s : Stop). not (outlasts c.args.today s.validity)) b.queues c.pending.inside.entries c.take_leaving.new.pending c.take_leaving.ensures.pending c.take_leaving.ensures.room_left c.take_leaving.ensures.gone)

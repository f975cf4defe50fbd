use Rattle.std.proofs.Common.{◌≡◌, List, [], ◌∷◌, map, refl, ap, ◌∙◌}
use Rattle.xm_rules.specs.declared.orders.Stop.{Stop}
use Rattle.xm_slots.specs.declared.entry.Entry.{Entry}
use Rattle.xm_stops.specs.HeldStops.{PendingStops}
use Rattle.xm_stops.specs.Pending.{stop_of_entry}
use Rattle.xm_stops.proofs.stops.Pending.forget.Goals as goal

none-pending : (entries : List (Entry Stop)) → map stop_of_entry entries ≡ [] → entries ≡ []
none-pending [] h = refl
none-pending (entry ∷ entries) h = absurd (cc)

pub forget-requires : goal.forget-requires
forget-requires g c = none-pending c.self.inside.entries.entries (ap (λ (p : PendingStops). p.stops) c.self.view_is ∙ c.requires)

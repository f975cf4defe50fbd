-- The held and the pending stops while some leave.
use Rattle.xm_rules.specs.declared.orders.Stop.{Stop}
use Rattle.std.specs.Prelude.{◌≡◌, Bool, ◌+◌, List, ◌++◌, length, filter, Contains}
use Rattle.std.proofs.Common.{◌⊎◌}
use Rattle.xm_slots.specs.Listing.{stays}
use Rattle.xm_stops.specs.Pending.{EntriesView, entries_that}
use Rattle.xm_stops.specs.Queued.{QueuedStops}
use Rattle.xm_slots.specs.declared.entry.Entry.{Entry}
use Rattle.xm_slots.specs.declared.listing.Listed.{Listed}

-- some of the stops that pass a test have left and stand behind the pending ones, in some order; all others are held as before
pub record IsDrained (leaves : Listed Stop → Bool) (old new : QueuedStops) (pending pending' : EntriesView) : Type 0 where
  pub rest : new ≡ record old { stops = new.stops }
  pub held : filter (stays leaves) new.stops ≡ filter (stays leaves) old.stops
  pub taken : List (Entry Stop)
  pub behind : pending'.entries ≡ pending.entries ++ taken
  pub room : pending'.room + length taken ≡ pending.room
  pub gone : pending'.gone ≡ pending.gone
  pub counted : length (filter leaves new.stops) + length taken ≡ length (filter leaves old.stops)
  pub each : (e : Entry Stop) → Contains (entries_that leaves old.stops) e → Contains (entries_that leaves new.stops) e ⊎ Contains taken e

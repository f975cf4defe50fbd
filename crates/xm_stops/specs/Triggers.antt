-- The triggers of one side that are in use, and those of both, as a clause sees them.
use Rattle.std.specs.Prelude.{◌≡◌, ◌==◌, ◌<◌, ℕ, Bool, ◌&&◌, false, List, [], length, Option, Some, None, IsSome}
use Rattle.xm_price_maps.specs.Levels.{LevelsView, HasPrice, HasLevelRoom, level_at}
use Rattle.xm_queues.specs.Queue.{IsQueue}
use Rattle.xm_queues.specs.declared.links.Link.{Link}
use Rattle.xm_queues.specs.declared.queues.Ends.{Ends}
use Rattle.xm_rules.specs.Sides.{reaches, same_side}
use Rattle.xm_rules.specs.declared.orders.Side.{Side}
use Rattle.xm_rules.specs.declared.orders.Side.TheVariants.{Buy, Sell}
use Rattle.xm_stops.specs.declared.trigger_queues.TriggerQueues.{TriggerQueues}

-- the queue that is there, or else an empty one
abbrev pub IsQueueFound : Option Ends → Ends → Type 0
IsQueueFound None ends = (links : List Link) → IsQueue links ends []
IsQueueFound (Some there) ends = ends ≡ there

-- the queue that was set, which has a key, or none where it is empty
abbrev pub IsQueueSet : Option Ends → Ends → Type 0
IsQueueSet None ends = (links : List Link) (keys : List ℕ) → IsQueue links ends keys → keys ≡ []
IsQueueSet (Some there) ends = (there ≡ ends) × ((links : List Link) (keys : List ℕ) → IsQueue links ends keys → 0 < length keys)

-- a trigger that has stops, and every price that reaches one of the others reaches this one
pub record IsNearest (side : Side) (table : LevelsView Ends) (trigger : ℕ) : Type 0 where
  pub there : IsSome (level_at table trigger)
  pub nearest : (p : ℕ) → reaches side p trigger ≡ false → level_at table p ≡ None

-- a side and a trigger are those of a place
abbrev pub is_same_place : Side → ℕ → Side → ℕ → Bool
is_same_place s p side trigger = same_side s side && (p == trigger)

module _ {A : Type 0} where
  abbrev pub table_of : Side → TriggerQueues A → LevelsView Ends
  table_of Buy t = t.buys
  table_of Sell t = t.sells

  abbrev pub with_table : Side → TriggerQueues A → LevelsView Ends → TriggerQueues A
  with_table Buy t new = record t { buys = new }
  with_table Sell t new = record t { sells = new }

  -- the queue of the stops of a side and trigger
  abbrev pub queue_of : TriggerQueues A → Side → ℕ → Option Ends
  queue_of t side trigger = level_at (table_of side t) trigger

  -- stops of a side and trigger can come and go with no memory, as far as the trigger goes
  abbrev pub HasTrigger : TriggerQueues A → Side → ℕ → Type 0
  HasTrigger t side trigger = HasPrice (table_of side t) trigger

  -- one queue more can be made on a side with no memory
  abbrev pub HasQueueRoom : TriggerQueues A → Side → Type 0
  HasQueueRoom t side = HasLevelRoom (table_of side t) 1

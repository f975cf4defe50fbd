-- What the tables of both sides end as, once a `&mut` to one of them has ended.
use Rattle.std.specs.Borrow.{Fml, Lends, MutBor, RattleType}
use Rattle.std.specs.declared.alloc.Allocator.{Ghosts}
use Rattle.xm_price_maps.specs.Levels.{LevelsView}
use Rattle.xm_queues.specs.declared.queues.Ends.{Ends}
use Rattle.xm_rules.specs.declared.orders.Side.{Side}
use Rattle.xm_stops.specs.Triggers.{with_table}
use Rattle.xm_stops.specs.contracts.trigger_queues.TriggerQueues as queues
use Rattle.xm_stops.specs.contracts.trigger_table.TriggerTable as table
use Rattle.xm_stops.specs.declared.trigger_queues.TriggerQueues.{TriggerQueues}

module _ (A : RattleType) (alloc : Ghosts A.Denot) (s : MutBor (TriggerQueues A.Denot)) (side : Side) where
  -- the table of the side has the last value written through r
  abbrev pub lends_table : MutBor (LevelsView Ends) → Fml
  lends_table r = Lends (queues.the_row A alloc) (table.the_row A alloc) s r (with_table side s.now)

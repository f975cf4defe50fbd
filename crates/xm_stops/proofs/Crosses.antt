-- Stops, held and pending ones, may go to another thread.
use denote.Param.Send.{IsSend, sendable}
use Rattle.std.proofs.Crossing.{crosses}
use Rattle.std.specs.contracts.alloc.Global.{the_row as heap}
use Rattle.std.specs.contracts.impls.GlobalAllocator.TheImpl.{ghosts}
use Rattle.xm_name_index.proofs.Crosses.{names-send}
use Rattle.xm_price_maps.proofs.Crosses.{levels-send}
use Rattle.xm_queues.proofs.Crosses.{queues-send}
use Rattle.xm_stops.specs.contracts.trigger_table.TriggerTable as TriggerTable
use Rattle.xm_stops.specs.contracts.trigger_queues.TriggerQueues as TriggerQueues
use Rattle.xm_stops.specs.contracts.stop_queues.StopQueues as StopQueues
use Rattle.xm_stops.specs.contracts.stops.Stops as Stops
use Rattle.xm_stops.specs.contracts.stops.Pending as Pending

triggers-send : IsSend (TriggerTable.the_field heap ghosts).row
triggers-send = search (sendable, crosses, levels-send) depth 20

trigger_queues-send : IsSend (TriggerQueues.the_field heap ghosts).row
trigger_queues-send = let a = triggers-send in search (sendable, crosses) depth 20

stop_queues-send : IsSend (StopQueues.the_field heap ghosts).row
stop_queues-send = let a = trigger_queues-send in let b = queues-send in search (sendable, crosses) depth 60

pub stops-send : IsSend (Stops.the_field heap ghosts).row
stops-send = let a = stop_queues-send in let b = names-send in search (sendable, crosses) depth 20

pub pending-send : IsSend (Pending.the_field heap ghosts).row
pending-send = search (sendable, crosses) depth 30

-- Queues may go to another thread.
use denote.Param.Send.{IsSend, sendable}
use Rattle.std.proofs.Crossing.{crosses}
use Rattle.std.specs.contracts.alloc.Global.{the_row as heap}
use Rattle.std.specs.contracts.impls.GlobalAllocator.TheImpl.{ghosts}
use Rattle.xm_queues.specs.contracts.queues.Queues as Queues

pub queues-send : IsSend (Queues.the_field heap ghosts).row
queues-send = search (sendable, crosses) depth 20

-- Positions may go to another thread.
use denote.Param.Send.{IsSend, sendable}
use Rattle.std.proofs.Crossing.{crosses}
use Rattle.std.specs.contracts.alloc.Global.{the_row as heap}
use Rattle.std.specs.contracts.impls.GlobalAllocator.TheImpl.{ghosts}
use Rattle.xm_positions.specs.contracts.positions.Positions as Positions

pub positions-send : IsSend (Positions.the_field heap ghosts).row
positions-send = search (sendable, crosses) depth 30

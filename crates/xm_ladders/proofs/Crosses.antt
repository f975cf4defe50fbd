-- Ladders may go to another thread.
use denote.Param.Send.{IsSend, sendable}
use Rattle.std.proofs.Crossing.{crosses}
use Rattle.std.specs.contracts.alloc.Global.{the_row as heap}
use Rattle.std.specs.contracts.impls.GlobalAllocator.TheImpl.{ghosts}
use Rattle.xm_price_maps.proofs.Crosses.{levels-send}
use Rattle.xm_ladders.specs.contracts.ladder.Ladder as Ladder
use Rattle.xm_ladders.specs.contracts.ladders.SideLadders as SideLadders
use Rattle.xm_ladders.specs.contracts.ladders.Ladders as Ladders

ladder-send : IsSend (Ladder.the_field heap ghosts).row
ladder-send = search (sendable, crosses, levels-send) depth 20

side-send : IsSend (SideLadders.the_field heap ghosts).row
side-send = let a = ladder-send in search (sendable, crosses) depth 20

pub ladders-send : IsSend (Ladders.the_field heap ghosts).row
ladders-send = let a = side-send in search (sendable, crosses) depth 20

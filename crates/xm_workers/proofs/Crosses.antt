-- A worker may go to another thread.
use denote.RattleType.{RattleType}
use denote.Param.Send.{IsSend, sendable}
use Rattle.std.proofs.Crossing.{crosses}
use Rattle.xm_segment.proofs.Crosses.{seat-send}
use Rattle.xm_segment.specs.declared.naming.Naming.{Ghosts}
use Rattle.xm_workers.specs.contracts.worker.Worker as Worker

module _ (S : RattleType) (g : Ghosts S.Denot) where
  pub worker-send : IsSend (Worker.the_field S g).row
  worker-send = let a = seat-send S g in search (sendable, crosses) depth 20

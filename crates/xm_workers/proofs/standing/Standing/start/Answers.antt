use contract.Lifetimes.{Lfts}
use denote.Param.Send.{IsSend, IsSync, param_send, sendable}
use Rattle.std.proofs.Crossing.{crosses}
use Rattle.xm_workers.proofs.Crosses.{worker-send}
use Rattle.xm_segment.proofs.Crosses.{segment-sync}
use Rattle.xm_workers.specs.contracts.standing.Standing.start.{T-row, G-row}
use Rattle.xm_workers.proofs.standing.Standing.start.Given.{Over}
use Rattle.xm_workers.proofs.standing.Standing.start.Lts as lts
use Rattle.xm_workers.proofs.standing.Standing.start.Goals as goal

-- what the closure has may go to another thread, said apart, where `search` meets no more than it needs
closure-send : (g : Over) (κs : Lfts 9) → IsSync (T-row g.row.S g.row.E g.row.T g.row.G) → IsSync (G-row g.row.S g.row.E g.row.T g.row.G)
    → IsSend (lts.arg-4-2 g.row.S g.row.E g.row.T g.row.G g.S.laws g.E.laws g.T.laws g.G.laws g.S.Naming g.S.Naming-dict g.T.Threads g.T.Threads-dict g.T.Wait g.T.Wait-dict g.G.Gate g.G.Gate-dict κs)
closure-send g κs t u = search (sendable, crosses, worker-send, segment-sync) depth 40

pub spawn_with-requires-send-F : goal.spawn_with-requires-send-F
spawn_with-requires-send-F g c κs within =
    param_send 2 (lts.arg-4-2 g.row.S g.row.E g.row.T g.row.G g.S.laws g.E.laws g.T.laws g.G.laws g.S.Naming g.S.Naming-dict g.T.Threads g.T.Threads-dict g.T.Wait g.T.Wait-dict g.G.Gate g.G.Gate-dict κs)
    (closure-send g κs c.type_bounds.sync-T c.type_bounds.sync-G)

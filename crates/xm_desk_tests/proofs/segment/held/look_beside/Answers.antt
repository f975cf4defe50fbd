use contract.Lifetimes.{Lfts}
use denote.Param.Send.{IsSend, IsSync, param_send, sendable}
use Rattle.std.proofs.Crossing.{crosses}
use Rattle.xm_segment.proofs.Crosses.{seat-send, segment-sync}
use Rattle.xm_desk_tests.specs.contracts.segment.held.look_beside.{R-row}
use Rattle.xm_desk_tests.proofs.segment.held.look_beside.Given.{Over}
use Rattle.xm_desk_tests.proofs.segment.held.look_beside.Lts as lts
use Rattle.xm_desk_tests.proofs.segment.held.look_beside.Goals as goal

-- what the worker's closure has may go to another thread, said apart, where `search` meets no more than it needs
closure-send : (g : Over) (κs : Lfts 14) → IsSync (R-row g.row.S g.row.R)
    → IsSend (lts.arg-0-1 g.row.S g.row.R g.S.laws g.R.laws g.S.Naming g.S.Naming-dict g.R.AllocGlobal g.R.AllocGlobal-dict g.R.Alloc g.R.Alloc-dict g.bound-4 g.bound-4-dict g.bound-5 g.bound-5-dict g.R.Threads g.R.Threads-dict g.R.Wait g.R.Wait-dict g.R.Abort g.R.Abort-dict κs)
closure-send g κs r = search (sendable, crosses, seat-send, segment-sync) depth 40

pub join-report-requires-send-F : goal.join-report-requires-send-F
join-report-requires-send-F g c κs within =
    param_send 1 (lts.arg-0-1 g.row.S g.row.R g.S.laws g.R.laws g.S.Naming g.S.Naming-dict g.R.AllocGlobal g.R.AllocGlobal-dict g.R.Alloc g.R.Alloc-dict g.bound-4 g.bound-4-dict g.bound-5 g.bound-5-dict g.R.Threads g.R.Threads-dict g.R.Wait g.R.Wait-dict g.R.Abort g.R.Abort-dict κs)
    (closure-send g κs c.type_bounds.sync-R)

use contract.Lifetimes.{Lfts}
use denote.Param.{param}
use denote.Param.Send.{IsSync, param_sync, sendable}
use Rattle.std.proofs.Crossing.{crosses}
use Rattle.xm_segment.proofs.Crosses.{segment-sync}
use Rattle.xm_desk_tests.proofs.segment.crowd.fn.write_beside.join+arg2.Given.{Over}
use Rattle.xm_desk_tests.proofs.segment.crowd.fn.write_beside.join+arg2.Lts as lts
use Rattle.xm_desk_tests.proofs.segment.crowd.fn.write_beside.join+arg2.Goals as goal

-- threads may share what each writer's closure sees, said apart, where `search` meets no more than it needs
closure-sync : (g : Over) (κs : Lfts 9) → IsSync (param 1 g.row.R) → IsSync (lts.arg-0-4 g.row.S g.row.R g.S.laws g.R.laws g.S.Naming g.S.Naming-dict g.R.AllocGlobal g.R.AllocGlobal-dict g.R.Alloc g.R.Alloc-dict g.R.Threads g.R.Threads-dict g.R.Wait g.R.Wait-dict g.R.Abort g.R.Abort-dict κs)
closure-sync g κs r = search (sendable, crosses, segment-sync) depth 40

pub map_vec-requires-sync-F : goal.map_vec-requires-sync-F
map_vec-requires-sync-F g c κs within =
    param_sync 4 (lts.arg-0-4 g.row.S g.row.R g.S.laws g.R.laws g.S.Naming g.S.Naming-dict g.R.AllocGlobal g.R.AllocGlobal-dict g.R.Alloc g.R.Alloc-dict g.R.Threads g.R.Threads-dict g.R.Wait g.R.Wait-dict g.R.Abort g.R.Abort-dict κs)
    (closure-sync g κs (search sendable))

use contract.Lifetimes.{Lfts}
use denote.Param.Send.{IsSync, param_sync, sendable}
use Rattle.std.proofs.Crossing.{crosses}
use Rattle.xm_rules.specs.contracts.commands.Command as Command
use Rattle.xm_segment.proofs.Crosses.{segment-sync}
use Rattle.xm_desk_tests.specs.contracts.segment.many.Load as Load
use Rattle.xm_desk_tests.specs.contracts.segment.many.entered.{R-row}
use Rattle.xm_desk_tests.proofs.segment.many.entered.Given.{Over}
use Rattle.xm_desk_tests.proofs.segment.many.entered.Lts as lts
use Rattle.xm_desk_tests.proofs.segment.many.entered.Goals as goal

command-sync : IsSync Command.the_row
command-sync = search (sendable, crosses) depth 20

load-sync : IsSync Load.the_row
load-sync = let a = command-sync in search (sendable, crosses) depth 30

-- threads may share what each worker's closure sees, said apart, where `search` meets no more than it needs
closure-sync : (g : Over) (κs : Lfts 11) → IsSync (R-row g.row.S g.row.R)
    → IsSync (lts.arg-3-4 g.row.S g.row.R g.S.laws g.R.laws g.S.Naming g.S.Naming-dict g.R.AllocGlobal g.R.AllocGlobal-dict g.R.Alloc g.R.Alloc-dict g.bound-4 g.bound-4-dict g.bound-5 g.bound-5-dict g.R.Threads g.R.Threads-dict g.R.Wait g.R.Wait-dict g.R.Abort g.R.Abort-dict κs)
closure-sync g κs r = let a = load-sync in search (sendable, crosses, segment-sync) depth 40

pub map_vec-entered-requires-sync-F : goal.map_vec-entered-requires-sync-F
map_vec-entered-requires-sync-F g c κs within =
    param_sync 4 (lts.arg-3-4 g.row.S g.row.R g.S.laws g.R.laws g.S.Naming g.S.Naming-dict g.R.AllocGlobal g.R.AllocGlobal-dict g.R.Alloc g.R.Alloc-dict g.bound-4 g.bound-4-dict g.bound-5 g.bound-5-dict g.R.Threads g.R.Threads-dict g.R.Wait g.R.Wait-dict g.R.Abort g.R.Abort-dict κs)
    (closure-sync g κs c.type_bounds.sync-R)

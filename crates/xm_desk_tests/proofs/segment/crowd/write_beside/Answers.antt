use contract.Lifetimes.{Lfts}
use denote.RattleType.{RattleType}
use denote.Param.Send.{IsSend, IsSync, param_send, sendable}
use Rattle.std.proofs.Crossing.{crosses}
use Rattle.xm_rules.specs.contracts.commands.Command as Command
use Rattle.xm_rules.specs.contracts.replies.Quote as Quote
use Rattle.xm_segment.proofs.Crosses.{seat-send, segment-sync}
use Rattle.xm_segment.specs.declared.naming.Naming.{Ghosts}
use Rattle.xm_desk_tests.specs.contracts.segment.crowd.Writer as Writer
use Rattle.xm_desk_tests.specs.contracts.segment.crowd.write_beside.{R-row}
use Rattle.xm_desk_tests.proofs.segment.crowd.write_beside.Given.{Over}
use Rattle.xm_desk_tests.proofs.segment.crowd.write_beside.Lts as lts
use Rattle.xm_desk_tests.proofs.segment.crowd.write_beside.Goals as goal

command-send : IsSend Command.the_row
command-send = search (sendable, crosses) depth 20

quote-send : IsSend Quote.the_row
quote-send = search (sendable, crosses) depth 20

-- a writer may go to another thread
module _ (S : RattleType) (g : Ghosts S.Denot) where
  writer-send : IsSend (Writer.the_field S g).row
  writer-send = let a = seat-send S g in let b = command-send in let c = quote-send in search (sendable, crosses) depth 30

-- what the writers' closure has may go to another thread, said apart, where `search` meets no more than it needs
closure-send : (g : Over) (κs : Lfts 10) → IsSync (R-row g.row.S g.row.R)
    → IsSend (lts.arg-0-1 g.row.S g.row.R g.S.laws g.R.laws g.S.Naming g.S.Naming-dict g.R.AllocGlobal g.R.AllocGlobal-dict g.R.Alloc g.R.Alloc-dict g.bound-4 g.bound-4-dict g.bound-5 g.bound-5-dict g.R.Threads g.R.Threads-dict g.R.Wait g.R.Wait-dict g.R.Abort g.R.Abort-dict κs)
closure-send g κs r = search (sendable, crosses, writer-send, segment-sync) depth 40

pub join-wrote-requires-send-F : goal.join-wrote-requires-send-F
join-wrote-requires-send-F g c κs within =
    param_send 1 (lts.arg-0-1 g.row.S g.row.R g.S.laws g.R.laws g.S.Naming g.S.Naming-dict g.R.AllocGlobal g.R.AllocGlobal-dict g.R.Alloc g.R.Alloc-dict g.bound-4 g.bound-4-dict g.bound-5 g.bound-5-dict g.R.Threads g.R.Threads-dict g.R.Wait g.R.Wait-dict g.R.Abort g.R.Abort-dict κs)
    (closure-send g κs c.type_bounds.sync-R)

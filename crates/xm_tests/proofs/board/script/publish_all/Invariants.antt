use Rattle.xm_tests.specs.Script.{Stands}
use Rattle.xm_tests.proofs.board.script.publish_all.Given as goal

abbrev pub invariant-loop-cycle : goal.invariant-loop-cycle
invariant-loop-cycle g l = Stands l.cycle 0 l.pen

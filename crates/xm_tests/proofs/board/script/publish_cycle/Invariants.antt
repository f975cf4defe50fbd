use Rattle.xm_tests.specs.Script.{Stands}
use Rattle.xm_tests.proofs.board.script.publish_cycle.Given as goal

abbrev pub invariant-loop-turn : goal.invariant-loop-turn
invariant-loop-turn g l = Stands l.fn.cycle l.turn l.pen

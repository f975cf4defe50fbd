use Rattle.std.proofs.Common.{rules, ◌≡◌, subst}
use Rattle.xm_tests.proofs.Scripted.{again}
use Rattle.xm_tests.specs.Script.{Stands}
use Rattle.xm_tests.proofs.board.script.publish_cycle.Goals as goal

pub returns : goal.returns
returns g c =
    let e : c.loop-turn.turn ≡ 8 = search rules in
    again c.args.cycle c.loop-turn.pen (subst (λ n. Stands c.args.cycle n c.loop-turn.pen) e c.loop-turn.invariant)

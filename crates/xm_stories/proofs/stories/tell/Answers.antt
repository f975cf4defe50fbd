use Rattle.std.proofs.Common.{◌∙◌}
use Rattle.std.proofs.lemmas.Result.{IfOk-weaker}
use Rattle.xm_rules.specs.Step.{replay, step}
use Rattle.xm_stories.proofs.Retelling.{story_told}
use Rattle.xm_stories.proofs.stories.tell.Goals as goal

pub returns-clause-story : goal.returns-clause-story
returns-clause-story g c =
    IfOk-weaker c.tell_seen.result _ _
    (λ events seen j it. seen (replay j) (step (replay j) c.args.command.now) it.is_before it.is_after
    ∙ story_told j (g.L.Left.units c.args.left.now) c.args.command.now c.args.before.now c.args.after.now c.args.trades.now c.args.triggered.now it)
    c.tell_seen.ensures

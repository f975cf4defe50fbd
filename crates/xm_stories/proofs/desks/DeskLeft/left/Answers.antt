use Rattle.std.proofs.Common.{◌∙◌}
use Rattle.xm_rules.specs.Step.{replay}
use Rattle.xm_stories.proofs.OneNamed.{left-named, used-once}
use Rattle.xm_stories.proofs.desks.DeskLeft.left.Goals as goal

pub returns : goal.returns
returns g c =
    c.units_left.ensures ∙ left-named c.args.member c.args.reference (replay c.args.self.now) (used-once c.args.member c.args.reference c.args.self.now c.accepted.ensures.lawful)

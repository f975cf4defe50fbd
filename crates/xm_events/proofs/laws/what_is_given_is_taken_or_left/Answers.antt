use Rattle.xm_rules.specs.Step.{replay}
use Rattle.xm_rules.proofs.DayLimits.{kept}
use Rattle.xm_events.proofs.Conserved.{story_conserves}
use Rattle.xm_events.proofs.laws.what_is_given_is_taken_or_left.Goals as goal

pub returns : goal.returns
returns c = λ j command member reference lawful accepted. story_conserves member reference (replay j) command accepted ((kept j lawful).names member reference)

use Rattle.xm_rules.specs.Step.{replay}
use Rattle.xm_rules.proofs.DayLimits.{kept}
use Rattle.xm_events.proofs.FillsOfCommands.{fill_says}
use Rattle.xm_events.proofs.laws.a_fill_tells_what_is_left.Goals as goal

pub returns : goal.returns
returns c = λ j command before behind f lawful accepted told. fill_says (replay j) command before behind f accepted (kept j lawful).names told

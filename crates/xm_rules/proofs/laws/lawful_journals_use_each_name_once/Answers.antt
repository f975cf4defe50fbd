use Rattle.xm_rules.proofs.DayLimits.{kept}
use Rattle.xm_rules.proofs.laws.lawful_journals_use_each_name_once.Goals as goal

pub returns : goal.returns
returns c = λ j member reference h. (kept j h).names member reference

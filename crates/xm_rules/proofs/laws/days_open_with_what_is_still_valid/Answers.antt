use Rattle.xm_rules.proofs.Opening.{opening-is}
use Rattle.xm_rules.proofs.laws.days_open_with_what_is_still_valid.Goals as goal

pub returns : goal.returns
returns c = λ settings. opening-is settings

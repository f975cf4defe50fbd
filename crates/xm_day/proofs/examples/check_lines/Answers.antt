use Rattle.std.proofs.Common.{refl}
use Rattle.std.specs.Fmt.{digits}
use Rattle.xm_day.proofs.examples.check_lines.Goals as goal

pub returns-clause-small : goal.returns-clause-small
unfolding digits
returns-clause-small c = refl

pub returns-clause-largest : goal.returns-clause-largest
unfolding digits
returns-clause-largest c = refl

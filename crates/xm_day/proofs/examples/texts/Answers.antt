use Rattle.std.proofs.Common.{refl}
use Rattle.std.specs.Fmt.{digits}
use Rattle.xm_day.proofs.examples.texts.Goals as goal

pub returns-clause-validities : goal.returns-clause-validities
unfolding digits
returns-clause-validities c = refl

pub returns-clause-kinds : goal.returns-clause-kinds
unfolding digits
returns-clause-kinds c = refl

pub returns-clause-day : goal.returns-clause-day
unfolding digits
returns-clause-day c = refl

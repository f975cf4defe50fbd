use Rattle.std.proofs.Common.{refl}
use Rattle.std.specs.Fmt.{digits}
use Rattle.xm_day.proofs.examples.markets.Goals as goal

pub returns-clause-continuous : goal.returns-clause-continuous
unfolding digits
returns-clause-continuous c = refl

pub returns-clause-opening : goal.returns-clause-opening
unfolding digits
returns-clause-opening c = refl

pub returns-clause-closing : goal.returns-clause-closing
unfolding digits
returns-clause-closing c = refl

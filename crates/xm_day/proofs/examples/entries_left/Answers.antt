use Rattle.std.proofs.Common.{refl}
use Rattle.std.specs.Fmt.{digits}
use Rattle.xm_day.proofs.examples.entries_left.Goals as goal

pub returns-clause-all : goal.returns-clause-all
unfolding digits
returns-clause-all c = refl

pub returns-clause-nothing : goal.returns-clause-nothing
unfolding digits
returns-clause-nothing c = refl

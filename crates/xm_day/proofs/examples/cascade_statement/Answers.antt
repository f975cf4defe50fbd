use Rattle.std.proofs.Common.{refl}
use Rattle.std.specs.Fmt.{digits}
use Rattle.xm_day.proofs.examples.cascade_statement.Goals as goal

pub returns : goal.returns
unfolding digits
returns c = refl

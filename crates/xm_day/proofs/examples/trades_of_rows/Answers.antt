use Rattle.std.proofs.Common.{refl}
use Rattle.std.specs.Fmt.{digits}
use Rattle.xm_day.proofs.examples.trades_of_rows.Goals as goal

pub returns-clause-with_text : goal.returns-clause-with_text
unfolding digits
returns-clause-with_text c = refl

use Rattle.std.proofs.Common.{refl}
use Rattle.std.specs.Fmt.{digits}
use Rattle.xm_day.proofs.examples.stop_lines.Goals as goal

pub returns-clause-limited : goal.returns-clause-limited
unfolding digits
returns-clause-limited c = refl

pub returns-clause-market : goal.returns-clause-market
unfolding digits
returns-clause-market c = refl

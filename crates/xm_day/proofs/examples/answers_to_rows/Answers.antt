use Rattle.std.proofs.Common.{refl}
use Rattle.std.specs.Fmt.{digits}
use Rattle.xm_day.proofs.examples.answers_to_rows.Goals as goal

pub returns-clause-unknown : goal.returns-clause-unknown
unfolding digits
returns-clause-unknown c = refl

pub returns-clause-priced : goal.returns-clause-priced
unfolding digits
returns-clause-priced c = refl

pub returns-clause-with_text : goal.returns-clause-with_text
unfolding digits
returns-clause-with_text c = refl

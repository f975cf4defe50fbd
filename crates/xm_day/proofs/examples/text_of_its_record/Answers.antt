use Rattle.std.proofs.Common.{refl}
use Rattle.std.specs.Fmt.{digits}
use Rattle.xm_day.proofs.examples.text_of_its_record.Goals as goal

pub returns : goal.returns
unfolding digits
returns c = refl

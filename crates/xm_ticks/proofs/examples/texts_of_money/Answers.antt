use Rattle.std.proofs.Common.{refl}
use Rattle.std.specs.Fmt.{digits}
use Rattle.xm_ticks.proofs.examples.texts_of_money.Goals as goal

pub returns : goal.returns
unfolding digits
returns c = record { nothing = refl; positive = refl; negative = refl; below_a_cent = refl; highest = refl; lowest = refl }

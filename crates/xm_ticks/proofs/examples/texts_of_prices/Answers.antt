use Rattle.std.proofs.Common.{refl}
use Rattle.std.specs.Fmt.{digits}
use Rattle.xm_ticks.proofs.examples.texts_of_prices.Goals as goal

pub returns : goal.returns
unfolding digits
returns c = record { price = refl; lowest = refl; highest = refl; whole = refl }

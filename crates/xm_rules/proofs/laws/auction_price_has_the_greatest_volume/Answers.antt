use Rattle.std.proofs.Common.{arith}
use Rattle.xm_rules.proofs.Prices.{volume_at_price, greatest_volume, no_volume}
use Rattle.xm_rules.proofs.laws.auction_price_has_the_greatest_volume.Goals as goal

pub returns-clause-volume : goal.returns-clause-volume
returns-clause-volume c = volume_at_price

pub returns-clause-greatest : goal.returns-clause-greatest
returns-clause-greatest c = greatest_volume

pub returns-clause-none : goal.returns-clause-none
returns-clause-none c = λ phase orders reference e x. omega (arith, no_volume phase orders reference e x)

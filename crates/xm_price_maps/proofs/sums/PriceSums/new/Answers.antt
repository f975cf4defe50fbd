use Rattle.std.proofs.Common.{length, ap}
use Rattle.xm_price_maps.proofs.Summing.{shaped_none, sum_none}
use Rattle.xm_price_maps.proofs.sums.PriceSums.new.Goals as goal

pub invariant_of-result : goal.invariant_of-result
invariant_of-result g c = shaped_none c.new.result.items (ap length c.new.ensures.items)

pub returns : goal.returns
returns g c = sum_none c.new.result.items (ap length c.new.ensures.items)

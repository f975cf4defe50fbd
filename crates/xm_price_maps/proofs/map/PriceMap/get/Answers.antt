use Rattle.std.proofs.Common.{rules}
use Rattle.xm_price_maps.specs.Map.{value_at}
use Rattle.xm_price_maps.proofs.map.PriceMap.get.Goals as goal

pub returns : goal.returns
unfolding value_at
returns g c = search rules

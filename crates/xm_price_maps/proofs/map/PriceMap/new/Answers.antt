use Rattle.std.proofs.Common.{length, ap}
use Rattle.xm_price_maps.proofs.Lookups.{lookup_none}
use Rattle.xm_price_maps.proofs.map.PriceMap.new.Goals as goal

pub returns : goal.returns
returns g c = lookup_none _ (ap length c.new.ensures.items)

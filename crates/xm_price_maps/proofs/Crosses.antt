-- Levels may go to another thread, if what stands at them may, and so may sums.
use denote.RattleType.{RattleType}
use denote.Param.Send.{IsSend, sendable}
use Rattle.std.proofs.Crossing.{crosses}
use Rattle.std.specs.contracts.alloc.Global.{the_row as heap}
use Rattle.std.specs.contracts.impls.GlobalAllocator.TheImpl.{ghosts}
use Rattle.xm_price_maps.specs.contracts.set.PriceSet as PriceSet
use Rattle.xm_price_maps.specs.contracts.bounded.BoundedSet as BoundedSet
use Rattle.xm_price_maps.specs.contracts.map.PriceMap as PriceMap
use Rattle.xm_price_maps.specs.contracts.levels.Levels as Levels
use Rattle.xm_price_maps.specs.contracts.sums.PriceSums as PriceSums

set-send : IsSend (PriceSet.the_field heap ghosts).row
set-send = search (sendable, crosses) depth 20

bounded-send : IsSend (BoundedSet.the_field heap ghosts).row
bounded-send = let a = set-send in search (sendable, crosses) depth 20

map-send : (V : RattleType) → IsSend V → IsSend (PriceMap.the_field V heap ghosts).row
map-send V v = search (sendable, crosses) depth 20

pub levels-send : (L : RattleType) → IsSend L → IsSend (Levels.the_field L heap ghosts).row
levels-send L l = let a = bounded-send in search (sendable, crosses, map-send) depth 60

pub sums-send : IsSend (PriceSums.the_field heap ghosts).row
sums-send = search (sendable, crosses) depth 20

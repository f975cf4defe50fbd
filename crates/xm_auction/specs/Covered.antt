-- Where the units of a side cover those of the other.
use Rattle.std.specs.Prelude.{ℕ, Bool, nat_le, List, filter, Option, option_map}
use Rattle.xm_auction.specs.declared.covered.Covered.{Covered}
use Rattle.xm_rules.specs.Auction.{accepting, candidates, surplus, volume}
use Rattle.xm_rules.specs.Sides.{best, opposite}
use Rattle.xm_rules.specs.declared.orders.Order.{Order}
use Rattle.xm_rules.specs.declared.orders.Side.{Side}
use Rattle.xm_rules.specs.declared.phases.Phase.{Phase}

-- at a price, the units of a side are no fewer than those of the other
abbrev pub covers : Phase → List Order → Side → ℕ → Bool
covers phase orders side x = nat_le (accepting phase orders (opposite side) x) (accepting phase orders side x)

abbrev pub covered_at : Phase → List Order → Side → ℕ → Covered
covered_at phase orders side x = record { price = x; volume = volume phase orders x; surplus = surplus phase orders side x }

-- of the candidates at which a side covers the other, the best of that side: the highest at which there is no surplus of
-- sells, or the lowest at which there is none of buys
abbrev pub best_covered : Phase → List Order → Side → Option Covered
best_covered phase orders side = option_map (covered_at phase orders side) (best side (filter (covers phase orders side) (candidates phase orders)))

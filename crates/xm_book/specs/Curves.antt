-- The curve of a side: the units of its active orders down to a limit, and how many orders come after it.
use Rattle.std.specs.Prelude.{ℕ, Bool, if◌then◌else◌, List, filter, Option, Some, None, sum_by}
use Rattle.xm_book.specs.Fronts.{is_limited_in, is_worse}
use Rattle.xm_book.specs.Queues.{market_sum}
use Rattle.xm_ladders.specs.Ladder.{is_within}
use Rattle.xm_rules.specs.Active.{Positioned, active, limits}
use Rattle.xm_rules.specs.Auction.{accepting}
use Rattle.xm_rules.specs.Sides.{best, opposite}
use Rattle.xm_rules.specs.declared.orders.Order.{Order}
use Rattle.xm_rules.specs.declared.orders.OrderKind.TheVariants.{Limit}
use Rattle.xm_rules.specs.declared.orders.Side.{Side}
use Rattle.xm_rules.specs.declared.phases.Phase.{Phase}

-- the units of a side's active orders that accept a price; where there is none, those of the market orders
abbrev pub units_to : Phase → Side → Option ℕ → List Order → ℕ
units_to phase side None orders = market_sum phase side orders
units_to phase side (Some p) orders = accepting phase orders side p

-- a limit comes after another; after none, each does
abbrev pub later : Side → Option ℕ → ℕ → Bool
later side after q = is_worse side after (Limit q)

-- how many orders of a side have a limit that comes after this one
abbrev pub orders_left : Phase → Side → Option ℕ → List Order → ℕ
orders_left phase side after orders = sum_by (λ (q : ℕ). if later side after q then 1 else 0) (limits (active phase side orders))

-- the units of a side's active orders with one of so many limits above a price
abbrev pub units_between : Phase → Side → ℕ → ℕ → List Order → ℕ
units_between phase side low n orders = sum_by (λ (i : Positioned). i.order.rest) (filter (λ (i : Positioned). is_limited_in low n i.order.kind) (active phase side orders))

-- the worst limit of a side's active orders that lies within a bound
abbrev pub worst_within : Phase → Side → ℕ → List Order → Option ℕ
worst_within phase side bound orders = best (opposite side) (filter (is_within side bound) (limits (active phase side orders)))

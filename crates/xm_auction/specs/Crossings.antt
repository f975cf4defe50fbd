-- How far the curves of a side and of the other were walked.
use Rattle.std.specs.Prelude.{◌≡◌, ℕ, ◌+◌, ◌<◌, ◌≤◌, true, false, List, Contains, None, IfSome}
use Rattle.xm_auction.specs.Depths.{depth_at, level_reached, reaches_price}
use Rattle.xm_auction.specs.declared.depth.Depth.{Depth}
use Rattle.xm_rules.specs.Auction.{accepting, candidates}
use Rattle.xm_rules.specs.Sides.{opposite, reaches}
use Rattle.xm_rules.specs.declared.orders.Order.{Order}
use Rattle.xm_rules.specs.declared.phases.Phase.{Phase}

-- the walk can begin here: down to its limit the other side has no more than the side has at that limit, and at no price
-- that the own limit doesn't reach does the side cover the other
pub record IsStart (phase : Phase) (orders : List Order) (own other : Depth) : Type 0 where
  pub own_depth : own ≡ depth_at phase own.side own.limit orders
  pub other_depth : other ≡ depth_at phase (opposite own.side) other.limit orders
  pub own_limit : IfSome own.limit (Contains (candidates phase orders))
  pub other_limit : IfSome other.limit (Contains (candidates phase orders))
  pub met : IfSome other.limit (λ p. other.units ≤ accepting phase orders own.side p)
  pub beyond : (x : ℕ) → reaches_price own.side own.limit x ≡ false → accepting phase orders own.side x < accepting phase orders (opposite own.side) x

-- down to its limit a side covers what the other has down to its own, which lies no further, and at no better price does it
-- cover the other
pub record IsCrossing (phase : Phase) (orders : List Order) (own other : Depth) : Type 0 where
  pub own_depth : own ≡ depth_at phase own.side own.limit orders
  pub other_depth : other ≡ depth_at phase (opposite own.side) other.limit orders
  pub own_limit : IfSome own.limit (Contains (candidates phase orders))
  pub other_limit : IfSome other.limit (Contains (candidates phase orders))
  pub covered : other.units ≤ own.units
  pub inside : IfSome other.limit (λ p. reaches_price own.side own.limit p ≡ true)
  pub beyond : (x : ℕ) → reaches_price own.side own.limit x ≡ false → accepting phase orders own.side x < accepting phase orders (opposite own.side) x

-- where the limit reaches the other side's next level, the side doesn't cover that one with it, and has no level before it
abbrev pub IsAtEnd : Depth → Depth → Type 0
IsAtEnd own other =
    IfSome (level_reached own other.next) (λ level. (own.units < other.units + level.1) × IfSome own.next (λ next. reaches own.side next.0 level.0 ≡ false))

-- the best price at which the side covers the other is no longer its limit
abbrev pub IsPassed : Depth → Depth → Type 0
IsPassed own other = level_reached own other.next ≡ None → own.limit ≡ None

-- The bounds between groups of prices, by which the walk along the curves begins near the crossing.
use Rattle.std.specs.Prelude.{◌≡◌, ℕ, ◌+◌, ◌-◌, ◌*◌, ◌<◌, ◌≤◌, true, false, List, Contains, None, IfSome}
use Rattle.xm_auction.specs.Depths.{depth_at}
use Rattle.xm_ladders.specs.Ladder.{is_within}
use Rattle.xm_price_maps.specs.Sums.{groups_of, places_of}
use Rattle.xm_auction.specs.declared.depth.Depth.{Depth}
use Rattle.xm_auction.specs.declared.bound.Bound.{Bound}
use Rattle.xm_auction.specs.declared.bound.TheConstants.{GROUPS_IN_WIDER}
use Rattle.xm_auction.specs.declared.narrowing.Gap.{Gap}
use Rattle.xm_price_maps.specs.declared.sums.GroupWidth.{GroupWidth}
use Rattle.xm_rules.specs.Active.{active, limits}
use Rattle.xm_rules.specs.Auction.{accepting}
use Rattle.xm_rules.specs.Sides.{opposite, reaches}
use Rattle.xm_rules.specs.declared.orders.Order.{Order}
use Rattle.xm_rules.specs.declared.orders.Side.{Side}
use Rattle.xm_rules.specs.declared.orders.Side.TheVariants.{Buy, Sell}
use Rattle.xm_rules.specs.declared.phases.Phase.{Phase}

-- the worst price that each limit within a bound reaches
abbrev pub edge : Side → ℕ → ℕ
edge Buy bound = bound + 1
edge Sell bound = bound

-- the units of a side's active market orders and of its limits within a bound
abbrev pub units_within : Phase → Side → ℕ → List Order → ℕ
units_within phase side bound orders = accepting phase orders side (edge side bound)

-- the bound after a group comes next after the one before it: the lower one on the buy side, the higher one on the sell side
abbrev pub IsNextBound : Side → ℕ → ℕ → Type 0
IsNextBound Buy g next = g ≡ next + 1
IsNextBound Sell g next = next ≡ g + 1

-- how many groups a side has after a bound
abbrev pub groups_left : Side → GroupWidth → ℕ → ℕ
groups_left Buy width g = g
groups_left Sell width g = groups_of width - g

-- a bound of a side, with its units
pub record IsBound (phase : Phase) (orders : List Order) (side : Side) (width : GroupWidth) (b : Bound) : Type 0 where
  pub in_range : b.group < groups_of width
  pub units_are : b.units ≡ units_within phase side (b.group * places_of width) orders

-- a bound of a side comes next after another
pub record IsNext (phase : Phase) (orders : List Order) (side : Side) (width : GroupWidth) (b next : Bound) : Type 0 where
  pub bound : IsBound phase orders side width next
  pub after : IsNextBound side b.group next.group

-- a bound of a side that no limit lies within
pub record IsBeforeBest (phase : Phase) (orders : List Order) (side : Side) (width : GroupWidth) (b : Bound) : Type 0 where
  pub bound : IsBound phase orders side width b
  pub none : (q : ℕ) → Contains (limits (active phase side orders)) q → is_within side (b.group * places_of width) q ≡ false

-- a width is the next one above another
abbrev pub IsNextWider : GroupWidth → GroupWidth → Type 0
IsNextWider wider width = places_of wider ≡ places_of width * GROUPS_IN_WIDER

-- a bound between groups of a width, with the units of one between wider groups, within which each of its limits lies
pub record IsNarrowed (phase : Phase) (orders : List Order) (side : Side) (wider width : GroupWidth) (wide b : Bound) : Type 0 where
  pub bound : IsBound phase orders side width b
  pub same : b.units ≡ wide.units
  pub within : (q : ℕ) → Contains (limits (active phase side orders)) q → is_within side (b.group * places_of width) q ≡ true
      → is_within side (wide.group * places_of wider) q ≡ true

-- the depth of a side's market orders, or that down to one of its limits within a bound, with the units within the bound
pub record IsDepthWithin (phase : Phase) (orders : List Order) (side : Side) (bound : ℕ) (d : Depth) : Type 0 where
  pub depth : d ≡ depth_at phase side d.limit orders
  pub units_are : d.units ≡ units_within phase side bound orders
  pub limit : IfSome d.limit (λ p. Contains (limits (active phase side orders)) p × (is_within side bound p ≡ true))

-- the side has the other's units within its bound at each of the limits there, and at each of the own limits within the
-- bound before the own one the other side has more units than the side has within that
pub record IsGap (phase : Phase) (orders : List Order) (g : Gap) : Type 0 where
  pub market_is : g.market ≡ depth_at phase g.market.side None orders
  pub other_market_is : g.other_market ≡ depth_at phase (opposite g.market.side) None orders
  pub own_is : IsBound phase orders g.market.side g.width g.own
  pub before_is : IsBound phase orders g.market.side g.width g.before
  pub other_is : IsBound phase orders (opposite g.market.side) g.width g.other
  pub next_is : IfSome g.next (IsNext phase orders (opposite g.market.side) g.width g.other)
  pub met : (q : ℕ) → Contains (limits (active phase (opposite g.market.side) orders)) q → is_within (opposite g.market.side) (g.other.group * places_of g.width) q ≡ true
      → g.other.units ≤ accepting phase orders g.market.side q
  pub short : (q : ℕ) → Contains (limits (active phase g.market.side orders)) q → is_within g.market.side (g.before.group * places_of g.width) q ≡ true
      → g.before.units < accepting phase orders (opposite g.market.side) q

-- at each price within the own bound the other side has more units than the side has within it
abbrev pub IsShort : Phase → List Order → Gap → Type 0
IsShort phase orders g =
    (x : ℕ) → reaches g.market.side x (edge g.market.side (g.own.group * places_of g.width)) ≡ true → g.own.units < accepting phase orders (opposite g.market.side) x

-- how many groups both sides have after their bounds
abbrev pub groups_left_of : Gap → ℕ
groups_left_of g = groups_left g.market.side g.width g.own.group + groups_left (opposite g.market.side) g.width g.other.group

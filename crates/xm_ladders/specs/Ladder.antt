-- The levels of one side and restriction, as a clause sees them.
use Rattle.std.specs.Prelude.{◌≡◌, ℕ, zero, suc, ◌+◌, ◌-◌, ◌*◌, ◌<◌, ◌≤◌, Bool, true, false, nat_le, nat_lt, List, [], Option, Some, None, IfSome, IsSome}
use Rattle.xm_ladders.specs.declared.level.Level.{Level}
use Rattle.xm_ladders.specs.declared.level.TheConstants.{MAX_LEVEL_UNITS}
use Rattle.xm_price_maps.specs.Levels as levels
use Rattle.xm_price_maps.specs.Sums.{HasSumRoom, groups_of, places_of, group_sum}
use Rattle.xm_price_maps.specs.declared.sums.GroupWidth.{GroupWidth}
use Rattle.xm_queues.specs.Queue.{IsQueue}
use Rattle.xm_queues.specs.declared.links.Link.{Link}
use Rattle.xm_rules.specs.Sides.{opposite, reaches}
use Rattle.xm_rules.specs.declared.orders.OrderKind.{OrderKind}
use Rattle.xm_rules.specs.declared.orders.OrderKind.TheVariants.{Market, Limit}
use Rattle.xm_rules.specs.declared.orders.Side.{Side}
use Rattle.xm_rules.specs.declared.orders.Side.TheVariants.{Buy, Sell}
use Rattle.xm_ticks.specs.declared.numbers.TheConstants.{MAX_PRICE}

pub record LadderView : Type 0 where
  pub market : Level
  pub limits : levels.LevelsView Level
  pub sums : List (List ℕ)

-- the level of a limit that has an order
abbrev pub limit_level : LadderView → ℕ → Option Level
limit_level l p = levels.level_at l.limits p

-- the level of orders of a kind
abbrev pub level_of : LadderView → OrderKind → Option Level
level_of l Market = Some l.market
level_of l (Limit p) = limit_level l p

-- orders of this kind can come and go with no memory, as far as their limit goes
abbrev pub HasKind : LadderView → OrderKind → Type 0
HasKind l Market = Unit {0}
HasKind l (Limit p) = levels.HasPrice l.limits p × HasSumRoom l.sums (p - 1)

-- so many levels more can be made with no memory, for orders of this kind
abbrev pub HasLevels : LadderView → OrderKind → ℕ → Type 0
HasLevels l Market n = Unit {0}
HasLevels l (Limit p) n = levels.HasLevelRoom l.limits n

-- there is no level, or one without an order
abbrev pub IsCleared : Option Level → Type 0
IsCleared None = Unit {0}
IsCleared (Some l) = ((links : List Link) → IsQueue links l.ends []) × ((l.orders ≡ 0) × (l.units ≡ 0))

-- a level with an order, at a price
abbrev pub IsHeld : ℕ → Level → Type 0
IsHeld p l = (0 < l.orders) × ((1 ≤ p) × (p ≤ MAX_PRICE)) × (l.units ≤ MAX_LEVEL_UNITS)

-- each level has an order, and no more units than one can have, and its limit is a price
abbrev pub HasOrders : levels.LevelsView Level → Type 0
HasOrders limits = (p : ℕ) → IfSome (levels.level_at limits p) (IsHeld p)

-- the units of a level, where there is one
abbrev pub units_of : Option Level → ℕ
units_of None = 0
units_of (Some l) = l.units

-- the units of the levels of so many limits above a price
unfoldable pub units_above : levels.LevelsView Level → ℕ → ℕ → ℕ
units_above limits low zero = 0
units_above limits low (suc n) = units_of (levels.level_at limits (low + 1)) + units_above limits (low + 1) n

-- each group's sum is that of the units of its levels: group 0 begins with limit 1
abbrev pub IsSummed : levels.LevelsView Level → List (List ℕ) → Type 0
IsSummed limits sums =
    (width : GroupWidth) (group : ℕ) → group < groups_of width → group_sum sums width group ≡ units_above limits (group * places_of width) (places_of width)

-- there is a level, and it has an order
abbrev pub HasOrder : Option Level → Type 0
HasOrder o = IsSome o × IfSome o (λ (l : Level). 0 < l.orders)

-- the best of the limits that have an order
pub record IsBestLimit (side : Side) (l : LadderView) (p : ℕ) : Type 0 where
  pub there : HasOrder (limit_level l p)
  pub best : (q : ℕ) → reaches side p q ≡ false → limit_level l q ≡ None

-- the best of those that are worse than another
pub record IsNextLimit (side : Side) (after : ℕ) (l : LadderView) (p : ℕ) : Type 0 where
  pub worse : reaches side p after ≡ false
  pub there : HasOrder (limit_level l p)
  pub best : (q : ℕ) → reaches side q after ≡ false → reaches side p q ≡ false → limit_level l q ≡ None

-- a limit lies within a bound: above it on the buy side, not above it on the sell side
abbrev pub is_within : Side → ℕ → ℕ → Bool
is_within Buy bound p = nat_lt bound p
is_within Sell bound p = nat_le p bound

-- the worst of the limits that have an order and lie within a bound
pub record IsWorstWithin (side : Side) (bound : ℕ) (l : LadderView) (p : ℕ) : Type 0 where
  pub within : is_within side bound p ≡ true
  pub there : HasOrder (limit_level l p)
  pub worst : (q : ℕ) → is_within side bound q ≡ true → reaches (opposite side) p q ≡ false → limit_level l q ≡ None

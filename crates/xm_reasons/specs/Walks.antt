-- The walk down the candidates of a call.
use Rattle.std.specs.Prelude.{◌≡◌, ℕ, ◌+◌, ◌==◌, Bool, true, false, if◌then◌else◌, List, [], ◌∷◌, ◌++◌, filter, map, Option, Some, None}
use Rattle.std.specs.Option.{option_to_list}
use Rattle.xm_book.specs.Curves.{units_to}
use Rattle.xm_book.specs.Queues.{market_sum}
use Rattle.xm_reasons.specs.Candidates.{best_first, candidate_at, descending}
use Rattle.xm_reasons.specs.declared.candidates.Candidate.{Candidate}
use Rattle.xm_reasons.specs.declared.walks.CurvePoint.{CurvePoint}
use Rattle.xm_rules.specs.Active.{active, limits}
use Rattle.xm_rules.specs.Auction.{accepting, candidates}
use Rattle.xm_rules.specs.Priority.{is_worse_limit}
use Rattle.xm_rules.specs.State.{State}
use Rattle.xm_rules.specs.declared.orders.Side.{Side}
use Rattle.xm_rules.specs.declared.orders.Side.TheVariants.{Buy, Sell}

-- the prices of a list that are worse than this one; all of them where there is none
abbrev pub prices_after : Side → Option ℕ → List ℕ → List ℕ
prices_after side None ps = ps
prices_after side (Some p) ps = filter (is_worse_limit side p) ps

-- the limits of a side's active orders
abbrev pub side_limits : State → Side → List ℕ
side_limits s side = limits (active s.phase side s.orders)

abbrev pub point_at : State → Side → ℕ → CurvePoint
point_at s side p = record { limit = p; units = accepting s.phase s.orders side p }

-- the curve of a side behind a limit: the limits that are worse, the best one first, each with the units that accept it
abbrev pub curve_of : State → Side → Option ℕ → List CurvePoint
curve_of s side after = map (point_at s side) (best_first side (prices_after side after (side_limits s side)))

-- the curve of the sells that lies below a price, the lowest limit first
abbrev pub sells_below : State → Option ℕ → List CurvePoint
sells_below s last = map (point_at s Sell) (best_first Sell (prices_after Buy last (side_limits s Sell)))

-- the candidates below one, the highest first
abbrev pub candidates_below : State → Option ℕ → List ℕ
candidates_below s last = descending (prices_after Buy last (candidates s.phase s.orders))

pub record Walked : Type 0 where
  -- the last candidate, and the units of the buys that accept it, which are those of the market orders before the first one
  pub last : Option ℕ
  pub demand : ℕ
  pub market_supply : ℕ
  -- the sells' limits below it: the highest, and before it the others
  pub sell : Option CurvePoint
  pub sells : List CurvePoint

pub record IsWalk (s : State) (w : Walked) : Type 0 where
  pub demand : w.demand ≡ units_to s.phase Buy w.last s.orders
  pub market_supply : w.market_supply ≡ market_sum s.phase Sell s.orders
  pub sells : w.sells ++ option_to_list w.sell ≡ sells_below s w.last
  pub none : w.sell ≡ None → w.sells ≡ []

-- the next candidate behind the last one, with what accepts it; none where there is none below
abbrev pub IsNextRow : State → Option ℕ → Option Candidate → Option ℕ → Type 0
IsNextRow s last None now = candidates_below s last ≡ []
IsNextRow s last (Some row) now = (row ≡ candidate_at s row.price) × (now ≡ Some row.price) × (candidates_below s last ≡ row.price ∷ candidates_below s now)

abbrev pub units_with : ℕ → Option (ℕ × ℕ) → ℕ → ℕ
units_with units None price = units
units_with units (Some level) price = if level.0 == price then units + level.1 else units

abbrev pub supply_from : Option CurvePoint → ℕ → ℕ
supply_from None market = market
supply_from (Some point) market = point.units

-- a point has this limit
abbrev pub is_point_at : ℕ → Option CurvePoint → Bool
is_point_at price None = false
is_point_at price (Some point) = point.limit == price

-- the highest of the sells' limits is left behind where it is this price, and nothing else changes
pub record HasPassed (price : ℕ) (before after : Walked) : Type 0 where
  pub last : after.last ≡ before.last
  pub demand : after.demand ≡ before.demand
  pub market_supply : after.market_supply ≡ before.market_supply
  pub at : is_point_at price before.sell ≡ true → before.sells ≡ after.sells ++ option_to_list after.sell
  pub none : is_point_at price before.sell ≡ true → after.sell ≡ None → after.sells ≡ []
  pub sell : is_point_at price before.sell ≡ false → after.sell ≡ before.sell
  pub sells : is_point_at price before.sell ≡ false → after.sells ≡ before.sells

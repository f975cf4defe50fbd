-- Buy and sell are mirrors: what is said of a side's prices is said once, with the side as a parameter.
use Rattle.std.specs.Prelude.{ℕ, Bool, true, false, if◌then◌else◌, nat_le, List, [], ◌∷◌, Option, Some, None}
use Rattle.xm_rules.specs.declared.orders.Side.{Side}
use Rattle.xm_rules.specs.declared.orders.Side.TheVariants.{Buy, Sell}

abbrev pub opposite : Side → Side
opposite Buy = Sell
opposite Sell = Buy

abbrev pub same_side : Side → Side → Bool
same_side Buy Buy = true
same_side Sell Sell = true
same_side _ _ = false

-- a price is as high as another on the buy side, as low on the sell side: so a limit reaches a price that its order accepts, and the
-- last price reaches the trigger of a stop
abbrev pub reaches : Side → ℕ → ℕ → Bool
reaches Buy p q = nat_le q p
reaches Sell p q = nat_le p q

-- the better of two prices: the higher on the buy side, the lower on the sell side
abbrev pub better : Side → ℕ → ℕ → ℕ
better side p q = if reaches side p q then p else q

-- the best of a price and others
abbrev pub best_from : Side → ℕ → List ℕ → ℕ
best_from side p [] = p
best_from side p (q ∷ qs) = best_from side (better side p q) qs

abbrev pub best : Side → List ℕ → Option ℕ
best side [] = None
best side (p ∷ ps) = Some (best_from side p ps)

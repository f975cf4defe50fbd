-- The ends of a set of prices.
use Rattle.std.specs.Prelude.{◌≡◌, ◌==◌, ℕ, Bool, false, if◌then◌else◌, nat_lt, Option, None, Some}
use Rattle.xm_price_maps.specs.Set.{IsFirstPrice, IsLastPrice, Prices, has}

-- the first price of the set, or none where it is empty
abbrev pub IsFirstPriceOf : Prices → Option ℕ → Type 0
IsFirstPriceOf s None = (n : ℕ) → has s n ≡ false
IsFirstPriceOf s (Some m) = IsFirstPrice s m

-- the last price of the set, or none where it is empty
abbrev pub IsLastPriceOf : Prices → Option ℕ → Type 0
IsLastPriceOf s None = (n : ℕ) → has s n ≡ false
IsLastPriceOf s (Some m) = IsLastPrice s m

abbrev pub lower_of : Option ℕ → ℕ → ℕ
lower_of None p = p
lower_of (Some first) p = if nat_lt p first then p else first

abbrev pub higher_of : Option ℕ → ℕ → ℕ
higher_of None p = p
higher_of (Some last) p = if nat_lt last p then p else last

-- the price is this end
abbrev pub is_at : Option ℕ → ℕ → Bool
is_at None p = false
is_at (Some end) p = end == p

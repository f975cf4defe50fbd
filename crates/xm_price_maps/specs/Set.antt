-- A set of prices, as a clause sees it.
use Rattle.std.specs.Prelude.{◌≡◌, ◌==◌, ℕ, ◌/◌, ◌<◌, Bool, List, if◌then◌else◌, nat_lt, true, false}
use Rattle.xm_price_maps.specs.Marks.{mark}
use Rattle.xm_price_maps.specs.Words.{HasWord}
use Rattle.xm_price_maps.specs.declared.marks.TheConstants.{PRICES}

-- what a set has, and for which prices it has room
pub record Prices : Type 0 where
  pub pages : List (List ℕ)

-- the set has the price
unfoldable pub has : Prices → ℕ → Bool
has s n = if nat_lt n PRICES then mark s.pages n == 1 else false

-- the price can join and leave the set with no memory
unfoldable pub HasRoom : Prices → ℕ → Type 0
HasRoom s n = HasWord s.pages (n / 64)

-- price m is the first of the set above price n
pub record IsNextAbove (s : Prices) (n m : ℕ) : Type 0 where
  pub above : n < m
  pub within : m < PRICES
  pub member : has s m ≡ true
  pub first : (k : ℕ) → n < k → k < m → has s k ≡ false

-- price m is the last of the set below price n
pub record IsNextBelow (s : Prices) (n m : ℕ) : Type 0 where
  pub below : m < n
  pub member : has s m ≡ true
  pub last : (k : ℕ) → m < k → k < n → has s k ≡ false

-- price m is the first of the set
pub record IsFirstPrice (s : Prices) (m : ℕ) : Type 0 where
  pub within : m < PRICES
  pub member : has s m ≡ true
  pub first : (k : ℕ) → k < m → has s k ≡ false

-- price m is the last of the set
pub record IsLastPrice (s : Prices) (m : ℕ) : Type 0 where
  pub within : m < PRICES
  pub member : has s m ≡ true
  pub last : (k : ℕ) → m < k → has s k ≡ false

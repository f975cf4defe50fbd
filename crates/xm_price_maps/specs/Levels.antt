-- Levels by price, as a clause sees them.
use Rattle.std.specs.Prelude.{◌≡◌, ℕ, ◌<◌, List, Option, None, Some, is_some, IsSome, option_map}
use Rattle.std.specs.Option.{option_and_then}
use Rattle.slab.specs.Slab.{Slab, get, HasRoomFor}
use Rattle.xm_price_maps.specs.Map as map
use Rattle.xm_price_maps.specs.Set as set
use Rattle.xm_price_maps.specs.declared.levels.Priced.{Priced}
use Rattle.xm_price_maps.specs.declared.marks.TheConstants.{PRICES}

-- what a ladder holds, and for what it has room
pub record LevelsView (L : Type 0) : Type 0 where
  pub prices : set.Prices
  pub keys : List (List (Option ℕ))
  pub slab : Slab (Priced L)

module _ {L : Type 0} where
  abbrev pub level_under : List (List (Option ℕ)) → Slab (Priced L) → ℕ → Option (Priced L)
  level_under keys slab p = option_and_then (λ (k : ℕ). get slab k) (map.value_at keys p)

  -- the level of a price
  unfoldable pub level_at : LevelsView L → ℕ → Option L
  level_at l p = option_map (λ (x : Priced L). x.level) (level_under l.keys l.slab p)

  -- a level can be put under the price, and taken away, as far as the price goes
  unfoldable pub HasPrice : LevelsView L → ℕ → Type 0
  HasPrice l p = set.HasRoom l.prices p × map.HasValueRoom l.keys p

  -- so many levels more can be put in with no memory
  unfoldable pub HasLevelRoom : LevelsView L → ℕ → Type 0
  HasLevelRoom l n = HasRoomFor l.slab n

  -- a level of this price lies under the key
  pub record Lies (slab : Slab (Priced L)) (p k : ℕ) : Type 0 where
    pub within : p < PRICES
    pub level : L
    pub there : get slab k ≡ Some (record { price = p; level = level })

  -- the set has the prices of the levels, each of which lies under its key
  pub record IsLaidOut (prices : set.Prices) (keys : List (List (Option ℕ))) (slab : Slab (Priced L)) : Type 0 where
    pub marked : (p : ℕ) → set.has prices p ≡ is_some (map.value_at keys p)
    pub lies : (p k : ℕ) → map.value_at keys p ≡ Some k → Lies slab p k

  pub record IsFirstLevel (l : LevelsView L) (p : ℕ) : Type 0 where
    pub within : p < PRICES
    pub there : IsSome (level_at l p)
    pub first : (q : ℕ) → q < p → level_at l q ≡ None

  pub record IsLastLevel (l : LevelsView L) (p : ℕ) : Type 0 where
    pub within : p < PRICES
    pub there : IsSome (level_at l p)
    pub last : (q : ℕ) → p < q → level_at l q ≡ None

  -- the first level above price n is that of price p
  pub record IsLevelAbove (l : LevelsView L) (n p : ℕ) : Type 0 where
    pub above : n < p
    pub within : p < PRICES
    pub there : IsSome (level_at l p)
    pub first : (q : ℕ) → n < q → q < p → level_at l q ≡ None

  -- the last level below price n is that of price p
  pub record IsLevelBelow (l : LevelsView L) (n p : ℕ) : Type 0 where
    pub below : p < n
    pub there : IsSome (level_at l p)
    pub last : (q : ℕ) → p < q → q < n → level_at l q ≡ None

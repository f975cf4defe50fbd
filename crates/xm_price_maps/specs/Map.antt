-- A map from prices, as a clause sees it.
use Rattle.std.specs.Prelude.{◌≡◌, ℕ, ◌/◌, ◌%◌, ◌<◌, List, Option, None, length}
use Rattle.xm_price_maps.specs.Slots.{page_at, slot_at}
use Rattle.xm_price_maps.specs.declared.map.TheConstants.{PAGES, PAGE_SLOTS}

module _ {V : Type 0} where
  -- the value under a price
  unfoldable pub value_at : List (List (Option V)) → ℕ → Option V
  value_at pages p = slot_at None pages (p / PAGE_SLOTS) (p % PAGE_SLOTS)

  -- a value can be put under the price, and taken away, with no memory
  unfoldable pub HasValueRoom : List (List (Option V)) → ℕ → Type 0
  HasValueRoom pages p = p % PAGE_SLOTS < length (page_at pages (p / PAGE_SLOTS))

  -- there are no pages, or as many as the prices take, which are absent or whole
  pub record IsMapShaped (pages : List (List (Option V))) : Type 0 where
    pub count : 0 < length pages → length pages ≡ PAGES
    pub whole : (i : ℕ) → 0 < length (page_at pages i) → length (page_at pages i) ≡ PAGE_SLOTS

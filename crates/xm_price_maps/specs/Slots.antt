-- Slots in pages. A page without slots is absent, and so is each page past the last.
use Rattle.std.specs.Prelude.{◌≡◌, ℕ, List, [], length, slice_index_or}

module _ {T : Type 0} where
  abbrev pub page_at : List (List T) → ℕ → List T
  page_at pages i = slice_index_or pages i []

  -- what slot k of page i has, or `none` where there is no such slot
  abbrev pub slot_at : T → List (List T) → ℕ → ℕ → T
  slot_at none pages i k = slice_index_or (page_at pages i) k none

  -- no page has gained or lost a slot
  pub record SameShape (old new : List (List T)) : Type 0 where
    pub len : length new ≡ length old
    pub pages : (i : ℕ) → length (page_at new i) ≡ length (page_at old i)

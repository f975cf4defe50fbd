-- Entries under keys, as a clause sees them.
use Rattle.std.specs.Prelude.{◌≡◌, ◌≢◌, ℕ, List, Option, None, is_some, IsSome, count_by, filter_map, slice_index_or}
use Rattle.xm_slots.specs.declared.entry.Entry.{Entry}

-- the entry or nothing under each key from 0 on, and for how many entries there is room
pub record SlotsView (I : Type 0) : Type 0 where
  pub slots : List (Option (Entry I))
  pub capacity : ℕ

module _ {I : Type 0} where
  -- the entry under a key
  abbrev pub get : SlotsView I → ℕ → Option (Entry I)
  get s key = slice_index_or s.slots key None

  abbrev pub ContainsKey : SlotsView I → ℕ → Type 0
  ContainsKey s key = IsSome (get s key)

  -- how many keys have an entry
  abbrev pub used : SlotsView I → ℕ
  used s = count_by is_some s.slots

  -- the new slots have this under the key, and every other key keeps what it had
  pub record Updates (old new : SlotsView I) (key : ℕ) (slot : Option (Entry I)) : Type 0 where
    pub changed : get new key ≡ slot
    pub others : (other : ℕ) → other ≢ key → get new other ≡ get old other

module _ {I : Type 0} where
  -- all entries, by rising key
  abbrev pub all_entries : SlotsView I → List (Entry I)
  all_entries s = filter_map (λ slot. slot) s.slots

  -- those under the keys of these names, in the order of the names
  abbrev pub entries_under : List (ℕ × ℕ) → SlotsView I → List (Entry I)
  entries_under names s = filter_map (λ (name : ℕ × ℕ). get s name.1) names

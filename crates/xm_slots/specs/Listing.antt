-- Entries in order of entry, with their keys and numbers.
use Rattle.std.specs.Prelude.{◌≡◌, ℕ, ◌+◌, ◌==◌, Bool, ◌&&◌, ◌||◌, if◌then◌else◌, not, nat_le, nat_lt, List, [], ◌∷◌, map, Some}
use Rattle.xm_slots.specs.Slots.{SlotsView, get}
use Rattle.xm_slots.specs.declared.entry.Entry.{Entry}
use Rattle.xm_slots.specs.declared.listing.Listed.{Listed}

module _ {I : Type 0} where
  abbrev pub listed_item : Listed I → I
  listed_item x = x.item

  abbrev pub listed_entry : Listed I → Entry I
  listed_entry x = record { item = x.item; time = x.time }

  abbrev pub keys_in : List (Listed I) → List ℕ
  keys_in xs = map (λ (x : Listed I). x.key) xs

  abbrev pub is_other_key : ℕ → Listed I → Bool
  is_other_key key x = not (x.key == key)

  -- the first where an entry has its key, and that entry elsewhere
  abbrev pub replaced_by : Listed I → Listed I → Listed I
  replaced_by listed x = if x.key == listed.key then listed else x

  abbrev pub is_below : ℕ → Listed I → Bool
  is_below limit x = nat_lt x.key limit

  -- times that rise strictly, the first of which is no lower than the first number, and the last lower than the second
  abbrev pub rises : ℕ → List (Listed I) → ℕ → Bool
  rises low [] high = nat_le low high
  rises low (x ∷ xs) high = nat_le low x.time && rises (x.time + 1) xs high

  abbrev pub time_of : Entry I → ℕ
  time_of e = e.time

  -- the entry lies under its key
  abbrev pub LiesAt : SlotsView I → Listed I → Type 0
  LiesAt slots x = get slots x.key ≡ Some (listed_entry x)

  -- not one of those that leave
  abbrev pub stays : (Listed I → Bool) → Listed I → Bool
  stays leaves x = not (leaves x)

  -- of the keys below a limit, those that are left are of entries that stay
  abbrev pub is_done : (Listed I → Bool) → ℕ → Listed I → Bool
  is_done stay limit x = not (is_below limit x) || stay x

-- The pending stops with the numbers of their entries.
use Rattle.std.specs.Prelude.{◌≡◌, ℕ, Bool, List, ◌++◌, map, filter, take, drop}
use Rattle.std.specs.List.Sorted.{IsNonDecreasingBy, IsPermutation}
use Rattle.xm_rules.specs.declared.orders.Stop.{Stop}
use Rattle.xm_slots.specs.Listing.{listed_entry, time_of}
use Rattle.xm_slots.specs.declared.entry.Entry.{Entry}
use Rattle.xm_slots.specs.declared.listing.Listed.{Listed}

-- entries in the order in which their stops come in, and those that have come in since these were last forgotten
pub record EntriesView : Type 0 where
  pub entries : List (Entry Stop)
  pub gone : List (Entry Stop)
  -- for how many more there is room
  pub room : ℕ

abbrev pub stop_of_entry : Entry Stop → Stop
stop_of_entry e = e.item

-- behind so many entries the others stand by the numbers of their entries
pub record IsSortedBehind (ahead : ℕ) (old new : List (Entry Stop)) : Type 0 where
  pub behind : List (Entry Stop)
  pub kept : new ≡ take ahead old ++ behind
  pub same : IsPermutation (drop ahead old) behind
  pub sorted : IsNonDecreasingBy time_of behind

-- the entries of the stops that pass a test
abbrev pub entries_that : (Listed Stop → Bool) → List (Listed Stop) → List (Entry Stop)
entries_that test xs = map listed_entry (filter test xs)

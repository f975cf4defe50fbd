-- The entries, sorted by their numbers, are those of the list in order of entry.
use Rattle.std.proofs.Common.{◌≡◌, ℕ, zero, suc, ◌+◌, ◌<◌, ◌≤◌, true, List, [], ◌∷◌, length, get_or, map, filter, count_by, cond, Contains, Option, Some, None, is_some, IfSome, refl, sym, ap, ◌∙◌, subst, arith}
use Rattle.std.specs.List.{All, filter_map}
use Rattle.std.specs.List.Sorted.{IsNonDecreasingBy, IsPermutation}
use Rattle.std.specs.Prelude.{nat_le}
use Rattle.std.proofs.lemmas.Bool.{and_parts, leb-true}
use Rattle.std.proofs.lemmas.List.{length-map}
use Rattle.std.proofs.lemmas.List.Elements.{All-cons, All-contains, All-nil, All-weaker}
use Rattle.std.proofs.lemmas.List.Sorted.{Contains-permutation, length_permutation}
use Rattle.std.proofs.lemmas.List.Sums.{sum_by-cons}
use Rattle.xm_slots.specs.Listing.{listed_entry, rises, LiesAt, time_of}
use Rattle.xm_slots.specs.Slots.{SlotsView, all_entries, get, used}
use Rattle.xm_slots.specs.declared.entry.Entry.{Entry}
use Rattle.xm_slots.specs.declared.listing.Listed.{Listed}
use Rattle.xm_slots.proofs.Members.{Contains-here, Contains-there, IsMade-map}
use Rattle.xm_slots.proofs.Tests.{same_some}
use Rattle.xm_slots.proofs.Rising.{IsRising, rearranged, sorted-same}

module _ {I : Type 0} where
  -- ---- the entries of the slots
  abbrev entries_in : List (Option (Entry I)) → List (Entry I)
  entries_in slots = filter_map (λ (slot : Option (Entry I)). slot) slots

  entries-length : (slots : List (Option (Entry I))) → length (entries_in slots) ≡ count_by is_some slots
  entries-length [] = refl
  entries-length (None ∷ rest) = omega (arith, entries-length rest, sum_by-cons (λ (o : Option (Entry I)). cond (is_some o) 1 0) None rest)
  entries-length (Some e ∷ rest) = omega (arith, entries-length rest, sum_by-cons (λ (o : Option (Entry I)). cond (is_some o) 1 0) (Some e) rest)

  entry-there : (slots : List (Option (Entry I))) (key : ℕ) (e : Entry I) → get_or slots key None ≡ Some e → Contains (entries_in slots) e
  entry-there [] key e here = absurd (cc)
  entry-there (None ∷ rest) zero e here = absurd (cc)
  entry-there (None ∷ rest) (suc key) e here = entry-there rest key e here
  entry-there (Some x ∷ rest) zero e here = subst (λ (y : Entry I). Contains (x ∷ entries_in rest) y) (same_some here) (Contains-here x (entries_in rest))
  entry-there (Some x ∷ rest) (suc key) e here = Contains-there x (entries_in rest) e (entry-there rest key e here)

  -- ---- the list

  no-lower : (low high : ℕ) (xs : List (Listed I)) → rises low xs high ≡ true → All (λ (e : Entry I). low ≤ e.time) (map listed_entry xs)
  no-lower low high [] h = All-nil (λ (e : Entry I). low ≤ e.time)
  no-lower low high (x ∷ xs) h =
      let parts = and_parts (nat_le low x.time) (rises (x.time + 1) xs high) h in
      let first = leb-true low x.time parts.0 in
      All-cons (λ (e : Entry I). low ≤ e.time) (listed_entry x) (map listed_entry xs) first
      (All-weaker (λ (e : Entry I). x.time + 1 ≤ e.time) (λ (e : Entry I). low ≤ e.time) (λ e le. omega arith) (map listed_entry xs) (no-lower (x.time + 1) high xs parts.1))

  pub times-rise : (low high : ℕ) (xs : List (Listed I)) → rises low xs high ≡ true → IsRising time_of (map listed_entry xs)
  times-rise low high [] h = tt
  times-rise low high (x ∷ xs) h =
      let parts = and_parts (nat_le low x.time) (rises (x.time + 1) xs high) h in
      (All-weaker (λ (e : Entry I). x.time + 1 ≤ e.time) (λ (e : Entry I). x.time < e.time) (λ e le. omega arith) (map listed_entry xs) (no-lower (x.time + 1) high xs parts.1), times-rise (x.time + 1) high xs parts.1)

  module _ (xs : List (Listed I)) (adds : ℕ) (slots : SlotsView I) (lie : All (LiesAt slots) xs) (count : used slots ≡ length xs) (rise : rises 0 xs adds ≡ true) where
    abbrev all_in_time : List (Entry I)
    all_in_time = map listed_entry xs

    each-there : (e : Entry I) → Contains all_in_time e → Contains (entries_in slots.slots) e
    each-there e at =
        let made = IsMade-map listed_entry xs e at in
        entry-there slots.slots made.from.key e (All-contains (LiesAt slots) xs made.from lie made.contains ∙ ap (λ (x : Entry I). Some x) made.made)

    as-many : length (entries_in slots.slots) ≡ length all_in_time
    as-many = entries-length slots.slots ∙ count ∙ sym (length-map xs listed_entry)

    -- what lies under a key is an entry of the list, of which they are all in another order
    pub held-in-time : (key : ℕ) (slot : Option (Entry I)) → slot ≡ get slots key → IfSome slot (Contains all_in_time)
    held-in-time key None here = tt
    held-in-time key (Some e) here =
        Contains-permutation (entries_in slots.slots) all_in_time e (rearranged time_of all_in_time (entries_in slots.slots) (times-rise 0 adds xs rise) each-there as-many) (entry-there slots.slots key e (sym here))

    -- sorted, they are in order of entry
    pub in-time : (zs : List (Entry I)) → IsPermutation (all_entries slots) zs → IsNonDecreasingBy time_of zs → zs ≡ all_in_time
    in-time zs moved up =
        sorted-same time_of zs all_in_time (times-rise 0 adds xs rise) up (λ e at. Contains-permutation (all_entries slots) zs e moved (each-there e at)) (length_permutation (all_entries slots) zs moved ∙ as-many)

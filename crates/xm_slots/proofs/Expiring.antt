-- The keys are looked at one after the other, and the entries that leave are taken.
use Rattle.std.proofs.Common.{◌≡◌, ℕ, ◌+◌, Bool, true, false, ◌||◌, ◌==◌, not, List, [], ◌∷◌, length, filter, Contains, Option, Some, None, IsSome, if◌then◌else◌, refl, sym, ap, ◌∙◌, arith}
use Rattle.std.specs.List.{All, list_all}
use Rattle.std.specs.Prelude.{nat_lt}
use Rattle.std.proofs.lemmas.Bool.{and_from, and_parts, false≢true}
use Rattle.std.proofs.lemmas.Bool.Decides.{nat_tests}
use Rattle.std.proofs.lemmas.List.Elements.{All-head, All-tail}
use Rattle.xm_slots.specs.Listing.{is_below, is_done, is_other_key, listed_entry, LiesAt, stays}
use Rattle.xm_slots.specs.Slots.{SlotsView, get}
use Rattle.xm_slots.specs.declared.entry.Entry.{Entry}
use Rattle.xm_slots.specs.declared.listing.Listed.{Listed}
use Rattle.xm_slots.proofs.Members.{Contains-here, Contains-there, Passes-filter}
use Rattle.xm_slots.proofs.SlotKeys.{within-there}

module _ {I : Type 0} where
  -- ---- each key is below the number of slots
  is-some : (o : Option (Entry I)) (e : Entry I) → o ≡ Some e → IsSome o
  is-some None e h = absurd (cc)
  is-some (Some x) e h = refl

  some-within : (slots : SlotsView I) (key : ℕ) (e : Entry I) → get slots key ≡ Some e → nat_lt key (length slots.slots) ≡ true
  some-within slots key e h = let l = within-there slots.slots key (is-some (get slots key) e h) in grind (arith, nat_tests)

  pub all-below : (slots : SlotsView I) (xs : List (Listed I)) → All (LiesAt slots) xs → list_all (is_below (length slots.slots)) xs ≡ true
  all-below slots [] h = refl
  all-below slots (x ∷ xs) h =
      and_from (is_below (length slots.slots) x) (list_all (is_below (length slots.slots)) xs)
      (some-within slots x.key (listed_entry x) (All-head (LiesAt slots) x xs h)) (all-below slots xs (All-tail (LiesAt slots) x xs h))

  -- what holds of all holds of those that are left
  pub all-kept : (p q : Listed I → Bool) (xs : List (Listed I)) → list_all p xs ≡ true → list_all p (filter q xs) ≡ true
  all-kept p q [] h = refl
  all-kept p q (x ∷ xs) h = let parts = and_parts (p x) (list_all p xs) h in kept_if (q x) parts.0 (all-kept p q xs parts.1)
    where
      kept_if : (b : Bool) → p x ≡ true → list_all p (filter q xs) ≡ true → list_all p (if b then x ∷ filter q xs else filter q xs) ≡ true
      kept_if true first rest = and_from (p x) (list_all p (filter q xs)) first rest
      kept_if false first rest = rest

  -- ---- the keys below a limit
  module _ (stay : Listed I → Bool) where
    -- before the first key nothing is asked
    pub none-done : (xs : List (Listed I)) → list_all (is_done stay 0) xs ≡ true
    none-done [] = refl
    none-done (x ∷ xs) = and_from (is_done stay 0 x) (list_all (is_done stay 0) xs) (before (stay x)) (none-done xs)
      where
        before : (b : Bool) → (not (nat_lt x.key 0) || b) ≡ true
        before b = grind (arith, nat_tests)

    done-more : (key : ℕ) (x : Listed I) → is_done stay key x ≡ true → (x.key ≡ key → stay x ≡ true) → is_done stay (key + 1) x ≡ true
    done-more key x h must = by_test (stay x) h must
      where
        by_test : (b : Bool) → (not (nat_lt x.key key) || b) ≡ true → (x.key ≡ key → b ≡ true) → (not (nat_lt x.key (key + 1)) || b) ≡ true
        by_test b h must = grind (arith, nat_tests)

    pub all-more : (key : ℕ) (xs : List (Listed I)) → list_all (is_done stay key) xs ≡ true → ((x : Listed I) → Contains xs x → x.key ≡ key → stay x ≡ true) → list_all (is_done stay (key + 1)) xs ≡ true
    all-more key [] h there = refl
    all-more key (x ∷ xs) h there =
        let parts = and_parts (is_done stay key x) (list_all (is_done stay key) xs) h in
        and_from (is_done stay (key + 1) x) (list_all (is_done stay (key + 1)) xs)
        (done-more key x parts.0 (there x (Contains-here x xs)))
        (all-more key xs parts.1 (λ y c. there y (Contains-there x xs y c)))

    -- once the entry of a key has left, its key is done
    pub left-more : (key : ℕ) (xs : List (Listed I)) → list_all (is_done stay key) xs ≡ true → list_all (is_done stay (key + 1)) (filter (is_other_key key) xs) ≡ true
    left-more key xs h = all-more key (filter (is_other_key key) xs) (all-kept (is_done stay key) (is_other_key key) xs h) (λ x left same. absurd (not-there x left same))
      where
        other-itself : (n : ℕ) → n ≡ key → not (n == key) ≡ false
        other-itself n e = grind (arith, nat_tests)

        not-there : (x : Listed I) → Contains (filter (is_other_key key) xs) x → x.key ≡ key → ⊥
        not-there x left same = false≢true (sym (other-itself x.key same) ∙ (Passes-filter (is_other_key key) xs x left).passes)

    -- at the end all that are left stay
    pub all-left : (limit : ℕ) (xs : List (Listed I)) → list_all (is_below limit) xs ≡ true → list_all (is_done stay limit) xs ≡ true → filter stay xs ≡ xs
    all-left limit [] b h = refl
    all-left limit (x ∷ xs) b h =
        let below = and_parts (is_below limit x) (list_all (is_below limit) xs) b in
        let done = and_parts (is_done stay limit x) (list_all (is_done stay limit) xs) h in
        (λ i. if stays-so (nat_lt x.key limit) below.0 done.0 i then x ∷ filter stay xs else filter stay xs)
        ∙ ap (λ (ys : List (Listed I)). x ∷ ys) (all-left limit xs below.1 done.1)
      where
        stays-so : (t : Bool) → t ≡ true → (not t || stay x) ≡ true → stay x ≡ true
        stays-so true e h = h
        stays-so false e h = absurd (cc)

  -- at the end none is left that leaves
  pub none-leaves : (leaves : Listed I → Bool) (limit : ℕ) (xs : List (Listed I)) → list_all (is_below limit) xs ≡ true → list_all (is_done (stays leaves) limit) xs ≡ true → filter leaves xs ≡ []
  none-leaves leaves limit [] b h = refl
  none-leaves leaves limit (x ∷ xs) b h =
      let below = and_parts (is_below limit x) (list_all (is_below limit) xs) b in
      let done = and_parts (is_done (stays leaves) limit x) (list_all (is_done (stays leaves) limit) xs) h in
      ap (λ (c : Bool). if c then x ∷ filter leaves xs else filter leaves xs) (stays-so (nat_lt x.key limit) (leaves x) below.0 done.0) ∙ none-leaves leaves limit xs below.1 done.1
    where
      stays-so : (t b : Bool) → t ≡ true → (not t || not b) ≡ true → b ≡ false
      stays-so true true e h = absurd (cc)
      stays-so true false e h = refl
      stays-so false b e h = absurd (cc)

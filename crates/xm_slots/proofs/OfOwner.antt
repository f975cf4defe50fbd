-- The entries under the keys of an owner's names, sorted by their numbers, are the owner's in order of entry.
use Rattle.std.proofs.Common.{◌≡◌, ℕ, zero, suc, Bool, true, false, ◌&&◌, ◌||◌, ◌==◌, not, cond, if◌then◌else◌, List, [], ◌∷◌, length, map, filter, find, Contains, Option, Some, None, is_some, IsSome, nat_eq, slice_get, refl, sym, ap, subst, ◌∙◌, arith, eqb-true, eq-eqb}
use Rattle.std.specs.Cmp.{nat_eq_equiv}
use Rattle.std.specs.List.{All, AllByRecursion, IsDistinct, cons_option, filter_map, list_any}
use Rattle.std.specs.List.Sorted.{IsNonDecreasingBy, IsPermutation}
use Rattle.std.specs.Map.{keys_of, lookup}
use Rattle.std.specs.Option.{option_map}
use Rattle.std.specs.Set.{is_member}
use Rattle.std.proofs.lemmas.Bool.{and_parts, false≢true, or_parts}
use Rattle.std.proofs.lemmas.Bool.Decides.{nat_tests}
use Rattle.std.proofs.lemmas.List.{length-map}
use Rattle.std.proofs.lemmas.List.Elements.{All-contains}
use Rattle.std.proofs.lemmas.List.Sorted.{Contains-permutation, length_permutation}
use Rattle.std.proofs.lemmas.Map.Entries.{lookup_from_place}
use Rattle.std.proofs.lemmas.Map.Keys.{IsDistinct-cons}
use Rattle.std.proofs.lemmas.Map.Made.{length-from_same_keys}
use Rattle.xm_slots.specs.Listing.{LiesAt, listed_entry, listed_item, rises, time_of}
use Rattle.xm_slots.specs.Naming.{AreNamesOf, bears, has_name, have_own_names, is_owned, key_by_name}
use Rattle.xm_slots.specs.Slots.{SlotsView, entries_under, get}
use Rattle.xm_slots.specs.declared.entry.Entry.{Entry}
use Rattle.xm_slots.specs.declared.listing.Listed.{Listed}
use Rattle.xm_slots.proofs.InTime.{times-rise}
use Rattle.xm_slots.proofs.Members.{Contains-here, Contains-there, IsMade-map, Passes-filter, find-None, find-Some}
use Rattle.xm_slots.proofs.Naming.{name-once, named-at, not-true}
use Rattle.xm_slots.proofs.Rising.{rising-filter, sorted-same}
use Rattle.xm_slots.proofs.Tests.{same_some}

turned : (m n : ℕ) → nat_eq m n ≡ (n == m)
turned m n = grind (arith, nat_tests)

-- ---- what lies under the keys of names
module _ {I : Type 0} (slots : SlotsView I) where
  abbrev found : ℕ × ℕ → Option (Entry I)
  found name = get slots name.1

  under-there : (ns : List (ℕ × ℕ)) (r k : ℕ) (e : Entry I) → lookup (nat_eq r) ns ≡ Some k → get slots k ≡ Some e → Contains (filter_map found ns) e
  under-there [] r k e at lies = absurd (cc)
  under-there (n ∷ ns) r k e at lies = by (nat_eq r n.0) at (under-there ns r k e)
    where
      here : (o : Option (Entry I)) → o ≡ Some e → Contains (cons_option o (filter_map found ns)) e
      here None is = absurd (cc)
      here (Some x) is = subst (λ (y : Entry I). Contains (x ∷ filter_map found ns) y) (same_some is) (Contains-here x (filter_map found ns))

      later : (o : Option (Entry I)) → Contains (filter_map found ns) e → Contains (cons_option o (filter_map found ns)) e
      later None in_rest = in_rest
      later (Some x) in_rest = Contains-there x (filter_map found ns) e in_rest

      by : (b : Bool) → cond b (Some n.1) (lookup (nat_eq r) ns) ≡ Some k → (lookup (nat_eq r) ns ≡ Some k → get slots k ≡ Some e → Contains (filter_map found ns) e)
          → Contains (cons_option (found n) (filter_map found ns)) e
      by true is rest = here (found n) (ap (get slots) (same_some is) ∙ lies)
      by false is rest = later (found n) (rest is lies)

  -- where each has an entry, there are as many
  under-length : (ns : List (ℕ × ℕ)) → ((i r k : ℕ) → slice_get ns i ≡ Some (r, k) → IsSome (get slots k)) → length (filter_map found ns) ≡ length ns
  under-length [] each = refl
  under-length (n ∷ ns) each = by (found n) (each 0 n.0 n.1 refl) (under-length ns (λ i r k at. each (suc i) r k at))
    where
      by : (o : Option (Entry I)) → IsSome o → length (filter_map found ns) ≡ length ns → length (cons_option o (filter_map found ns)) ≡ suc (length ns)
      by None some rest = absurd (cc)
      by (Some e) some rest = ap suc rest

-- ---- the numbers of an owner's items
module _ {I : Type 0} (owner_of number_of : I → ℕ) (owner : ℕ) where
  abbrev owned : Entry I → Bool
  owned e = is_owned owner_of number_of owner e

  abbrev number : Entry I → ℕ
  number e = number_of e.item

  abbrev numbers : List (Listed I) → List ℕ
  numbers xs = map number (filter owned (map listed_entry xs))

  abbrev named : ℕ → Listed I → Bool
  named n x = has_name owner_of number_of owner n x

  -- another item of the owner has another number
  differ : (n : ℕ) (xs : List (Listed I)) → list_any (bears owner_of number_of owner n) (map listed_item xs) ≡ false → AllByRecursion (λ y. nat_eq n y ≡ false) (numbers xs)
  differ n [] none = tt
  differ n (x ∷ xs) none = by (owner_of x.item == owner) refl (or_parts (bears owner_of number_of owner n x.item) (list_any (bears owner_of number_of owner n) (map listed_item xs)) none).0 (differ n xs (or_parts (bears owner_of number_of owner n x.item) (list_any (bears owner_of number_of owner n) (map listed_item xs)) none).1)
    where
      by : (b : Bool) → (owner_of x.item == owner) ≡ b → (b && (number_of x.item == n)) ≡ false → AllByRecursion (λ y. nat_eq n y ≡ false) (numbers xs)
          → AllByRecursion (λ y. nat_eq n y ≡ false) (map number (if b then listed_entry x ∷ filter owned (map listed_entry xs) else filter owned (map listed_entry xs)))
      by true is apart rest = (turned n (number_of x.item) ∙ apart, rest)
      by false is apart rest = rest

  numbers-distinct : (xs : List (Listed I)) → have_own_names owner_of number_of (map listed_item xs) ≡ true → IsDistinct nat_eq (numbers xs)
  unfolding IsDistinct
  numbers-distinct [] own = tt
  numbers-distinct (x ∷ xs) own = by (owner_of x.item == owner) refl (numbers-distinct xs parts.1)
    where
      any : Bool
      any = list_any (bears owner_of number_of (owner_of x.item) (number_of x.item)) (map listed_item xs)

      parts : (not any ≡ true) × (have_own_names owner_of number_of (map listed_item xs) ≡ true)
      parts = and_parts (not any) (have_own_names owner_of number_of (map listed_item xs)) own

      by : (b : Bool) → (owner_of x.item == owner) ≡ b → IsDistinct nat_eq (numbers xs) → IsDistinct nat_eq (map number (if b then listed_entry x ∷ filter owned (map listed_entry xs) else filter owned (map listed_entry xs)))
      by true is rest =
          IsDistinct-cons nat_eq (number_of x.item) (numbers xs)
          (differ (number_of x.item) xs (ap (λ (m : ℕ). list_any (bears owner_of number_of m (number_of x.item)) (map listed_item xs)) (sym (eqb-true (owner_of x.item) owner is)) ∙ not-true any parts.0)) rest
      by false is rest = rest

  number-there : (q : ℕ) (xs : List (Listed I)) → is_member nat_eq (numbers xs) q ≡ is_some (find (named q) xs)
  number-there q [] = refl
  number-there q (x ∷ xs) = by (owner_of x.item == owner) (number-there q xs)
    where
      same : (c : Bool) → (c || is_member nat_eq (numbers xs) q) ≡ is_some (cond c (Some x) (find (named q) xs)) → (nat_eq q (number_of x.item) ≡ c) → (nat_eq q (number_of x.item) || is_member nat_eq (numbers xs) q) ≡ is_some (cond c (Some x) (find (named q) xs))
      same c h is = ap (λ (d : Bool). d || is_member nat_eq (numbers xs) q) is ∙ h

      either : (c : Bool) → is_member nat_eq (numbers xs) q ≡ is_some (find (named q) xs) → (c || is_member nat_eq (numbers xs) q) ≡ is_some (cond c (Some x) (find (named q) xs))
      either true rest = refl
      either false rest = rest

      by : (b : Bool) → is_member nat_eq (numbers xs) q ≡ is_some (find (named q) xs)
          → is_member nat_eq (map number (if b then listed_entry x ∷ filter owned (map listed_entry xs) else filter owned (map listed_entry xs))) q ≡ is_some (cond (b && (number_of x.item == q)) (Some x) (find (named q) xs))
      by true rest = same (number_of x.item == q) (either (number_of x.item == q) rest) (turned q (number_of x.item))
      by false rest = rest

  name-there : (q : ℕ) (ns : List (ℕ × ℕ)) → is_member nat_eq (keys_of ns) q ≡ is_some (lookup (nat_eq q) ns)
  name-there q [] = refl
  name-there q (n ∷ ns) = by (nat_eq q n.0) (name-there q ns)
    where
      by : (b : Bool) → is_member nat_eq (keys_of ns) q ≡ is_some (lookup (nat_eq q) ns) → (b || is_member nat_eq (keys_of ns) q) ≡ is_some (cond b (Some n.1) (lookup (nat_eq q) ns))
      by true rest = refl
      by false rest = rest

  some-made : {X Y : Type 0} (f : X → Y) (o : Option X) → is_some (option_map f o) ≡ is_some o
  some-made f None = refl
  some-made f (Some x) = refl

  module _ (xs : List (Listed I)) (adds : ℕ) (slots : SlotsView I) (lie : All (LiesAt slots) xs) (rise : rises 0 xs adds ≡ true) (names : List (ℕ × ℕ)) (of : AreNamesOf owner_of number_of owner xs names) where
    abbrev all_owned : List (Entry I)
    all_owned = filter owned (map listed_entry xs)

    as-many-names : length names ≡ length all_owned
    as-many-names =
        sym (length-map names (λ (n : ℕ × ℕ). n.0))
        ∙ length-from_same_keys nat_eq_equiv (keys_of names) (numbers xs) of.once (numbers-distinct xs of.own) (λ q. name-there q names ∙ ap is_some (of.keyed q) ∙ some-made (λ (x : Listed I). x.key) (find (named q) xs) ∙ sym (number-there q xs))
        ∙ length-map all_owned number

    -- the key of a name has an entry
    each-found : (i r k : ℕ) → slice_get names i ≡ Some (r, k) → IsSome (get slots k)
    each-found i r k at =
        let is = named-at owner_of number_of owner r k xs (sym (of.keyed r) ∙ lookup_from_place nat_eq_equiv names i r k of.once at) in
        let there = find-Some (named r) xs is.listed is.found in
        subst IsSome (sym (All-contains (LiesAt slots) xs is.listed lie there.contains) ∙ ap (get slots) is.key_is) refl

    own-found : (x : Listed I) → Contains xs x → (owner_of x.item == owner) ≡ true → (o : Option (Listed I)) → find (named (number_of x.item)) xs ≡ o → o ≡ Some x
    own-found x at is None e = absurd (false≢true (sym (find-None (named (number_of x.item)) xs x e at) ∙ bears-own))
      where
        bears-own : named (number_of x.item) x ≡ true
        bears-own = ap (λ (b : Bool). b && (number_of x.item == number_of x.item)) is ∙ eq-eqb (number_of x.item) (number_of x.item) refl
    own-found x at is (Some y) e =
        let there = find-Some (named (number_of x.item)) xs y e in
        ap (λ (z : Listed I). Some z) (name-once owner_of number_of owner (number_of x.item) xs x y of.own at there.contains (ap (λ (b : Bool). b && (number_of x.item == number_of x.item)) is ∙ eq-eqb (number_of x.item) (number_of x.item) refl) there.passes)

    each-owned : (e : Entry I) → Contains all_owned e → Contains (entries_under names slots) e
    each-owned e at =
        let passes = Passes-filter owned (map listed_entry xs) e at in
        let made = IsMade-map listed_entry xs e passes.contains in
        let is : (owner_of made.from.item == owner) ≡ true = ap owned made.made ∙ passes.passes in
        let key = of.keyed (number_of made.from.item) ∙ ap (option_map (λ (x : Listed I). x.key)) (own-found made.from made.contains is (find (named (number_of made.from.item)) xs) refl) in
        under-there slots names (number_of made.from.item) made.from.key e key (All-contains (LiesAt slots) xs made.from lie made.contains ∙ ap (λ (x : Entry I). Some x) made.made)

    pub owned-in-time : (zs : List (Entry I)) → IsPermutation (entries_under names slots) zs → IsNonDecreasingBy time_of zs → zs ≡ all_owned
    owned-in-time zs moved up =
        sorted-same time_of zs all_owned (rising-filter time_of owned (map listed_entry xs) (times-rise 0 adds xs rise)) up
        (λ e at. Contains-permutation (entries_under names slots) zs e moved (each-owned e at)) (length_permutation (entries_under names slots) zs moved ∙ under-length slots names each-found ∙ as-many-names)

-- ---- the items of entries
module _ {I : Type 0} where
  abbrev pub item_of : Entry I → I
  item_of e = e.item

  pub items-in : (xs : List (Listed I)) → map item_of (map listed_entry xs) ≡ map listed_item xs
  items-in [] = refl
  items-in (x ∷ xs) = ap (λ (os : List I). x.item ∷ os) (items-in xs)

  pub items-owned : (owner_of number_of : I → ℕ) (owner : ℕ) (xs : List (Listed I)) → map item_of (filter (is_owned owner_of number_of owner) (map listed_entry xs)) ≡ filter (λ (x : I). owner_of x == owner) (map listed_item xs)
  items-owned owner_of number_of owner [] = refl
  items-owned owner_of number_of owner (x ∷ xs) = by (owner_of x.item == owner) (items-owned owner_of number_of owner xs)
    where
      entries : List (Entry I)
      entries = filter (is_owned owner_of number_of owner) (map listed_entry xs)

      items : List I
      items = filter (λ (y : I). owner_of y == owner) (map listed_item xs)

      by : (b : Bool) → map item_of entries ≡ items → map item_of (if b then listed_entry x ∷ entries else entries) ≡ (if b then x.item ∷ items else items)
      by true rest = ap (λ (os : List I). x.item ∷ os) rest
      by false rest = rest

-- The items of a list by their names, as an item joins it or leaves it.
use Rattle.std.proofs.Common.{◌≡◌, ℕ, Bool, true, false, not, ◌&&◌, ◌||◌, ◌==◌, if◌then◌else◌, List, [], ◌∷◌, ◌++◌, get_or, map, filter, find, Contains, Option, Some, None, option_map, ◌⊎◌, inl, inr, refl, sym, ap, ◌∙◌, arith}
use Rattle.std.specs.List.{All, list_any}
use Rattle.std.specs.Option.{option_or}
use Rattle.std.proofs.lemmas.Bool.{and_parts, eq-eqb, eqb-true, false≢true, or_parts}
use Rattle.std.proofs.lemmas.Bool.Decides.{nat_tests}
use Rattle.std.proofs.lemmas.List.Elements.{Contains-get_or}
use Rattle.std.proofs.lemmas.List.Folds.{find-append, list_any-append}
use Rattle.xm_queues.specs.Keys.{AreDistinct}
use Rattle.xm_slots.specs.Listing.{is_other_key, keys_in, listed_item}
use Rattle.xm_slots.specs.Naming.{bears, has_name, have_own_names, key_by_name}
use Rattle.xm_slots.specs.declared.listing.Listed.{Listed}
use Rattle.xm_slots.proofs.Leaving.{key-once}
use Rattle.xm_slots.proofs.Members.{Contains-cases, Contains-map, Contains-none, find-Some, find-none, list_any-false}
use Rattle.xm_slots.proofs.Tests.{none-found, filter-same, any-kept, find-filter, keep-all}

same_test : (m n : ℕ) → (m == n) ≡ (n == m)
same_test m n = grind (arith, nat_tests)

pub same_tests : (s t : Bool) → (s ≡ true → t ≡ true) → (t ≡ true → s ≡ true) → s ≡ t
same_tests true t h k = sym (h refl)
same_tests false true h k = k refl
same_tests false false h k = refl

pub not-true : (b : Bool) → not b ≡ true → b ≡ false
not-true true h = absurd (cc)
not-true false h = refl

module _ {I : Type 0} where
  -- those stay whose items pass a test
  abbrev pub keeps : (I → Bool) → Listed I → Bool
  keeps test z = test z.item

  pub items-kept : (test : I → Bool) (xs : List (Listed I)) → map listed_item (filter (keeps test) xs) ≡ filter test (map listed_item xs)
  items-kept test [] = refl
  items-kept test (x ∷ xs) = kept_if (test x.item) (items-kept test xs)
    where
      kept_if : (b : Bool) → map listed_item (filter (keeps test) xs) ≡ filter test (map listed_item xs)
          → map listed_item (if b then x ∷ filter (keeps test) xs else filter (keeps test) xs) ≡ (if b then x.item ∷ filter test (map listed_item xs) else filter test (map listed_item xs))
      kept_if true rest = ap (λ os. x.item ∷ os) rest
      kept_if false rest = rest

module _ {I : Type 0} (owner_of number_of : I → ℕ) where
  abbrev named : ℕ → ℕ → I → Bool
  named owner number x = bears owner_of number_of owner number x

  abbrev has : ℕ → ℕ → Listed I → Bool
  has owner number x = has_name owner_of number_of owner number x

  abbrev all_own : List I → Bool
  all_own os = have_own_names owner_of number_of os

  abbrev key_named : ℕ → ℕ → List (Listed I) → Option ℕ
  key_named owner number xs = key_by_name owner_of number_of owner number xs

  abbrev without_name : ℕ → ℕ → List I → List I
  without_name owner number os = filter (λ (o : I). not (named owner number o)) os

  abbrev without_owner : ℕ → List I → List I
  without_owner owner os = filter (λ (o : I). not (owner_of o == owner)) os

  -- ---- the item of a name
  pub named-is : (owner number : ℕ) (o : I) → named owner number o ≡ true → (owner_of o ≡ owner) × (number_of o ≡ number)
  named-is owner number o h =
      let parts = and_parts (owner_of o == owner) (number_of o == number) h in
      (eqb-true (owner_of o) owner parts.0, eqb-true (number_of o) number parts.1)

  -- the test as the names of owners make it
  pub named-test : (owner number : ℕ) (o : I) → named owner number o ≡ ((owner == owner_of o) && (number == number_of o))
  named-test owner number o = (λ i. same_test (owner_of o) owner i && same_test (number_of o) number i)

  -- two items of one name
  one-name : (owner number : ℕ) (a b : I) → named owner number a ≡ true → named owner number b ≡ true → named (owner_of a) (number_of a) b ≡ true
  one-name owner number a b h k = (λ i. named (h-is.0 i) (h-is.1 i) b) ∙ k
    where
      h-is : (owner_of a ≡ owner) × (number_of a ≡ number)
      h-is = named-is owner number a h

  pub find-map : (owner number : ℕ) (xs : List (Listed I)) → find (named owner number) (map listed_item xs) ≡ option_map listed_item (find (has owner number) xs)
  find-map owner number [] = refl
  find-map owner number (x ∷ xs) = find_if (has owner number x) (find-map owner number xs)
    where
      find_if : (b : Bool) → find (named owner number) (map listed_item xs) ≡ option_map listed_item (find (has owner number) xs)
          → (if b then Some x.item else find (named owner number) (map listed_item xs)) ≡ option_map listed_item (if b then Some x else find (has owner number) xs)
      find_if true rest = refl
      find_if false rest = rest

  -- an item that lies under the key of its name
  pub record IsNamedAt (owner number under : ℕ) (xs : List (Listed I)) : Type 0 where
    pub listed : Listed I
    pub found : find (has owner number) xs ≡ Some listed
    pub key_is : listed.key ≡ under

  pub named-at : (owner number key : ℕ) (xs : List (Listed I)) → key_named owner number xs ≡ Some key → IsNamedAt owner number key xs
  named-at owner number key xs h = by_find (find (has owner number) xs) refl h
    where
      by_find : (o : Option (Listed I)) → find (has owner number) xs ≡ o → option_map (λ (x : Listed I). x.key) o ≡ Some key → IsNamedAt owner number key xs
      by_find None e k = absurd (cc)
      by_find (Some x) e k = record { listed = x; found = e; key_is = cc }

  pub not-named : (owner number : ℕ) (xs : List (Listed I)) → key_named owner number xs ≡ None → find (named owner number) (map listed_item xs) ≡ None
  not-named owner number xs h = find-map owner number xs ∙ ap (option_map listed_item) (by_find (find (has owner number) xs) h)
    where
      by_find : (o : Option (Listed I)) → option_map (λ (x : Listed I). x.key) o ≡ None → o ≡ None
      by_find None e = refl
      by_find (Some x) e = absurd (cc)

  pub name-once : (owner number : ℕ) (xs : List (Listed I)) (x z : Listed I) → all_own (map listed_item xs) ≡ true → Contains xs x → Contains xs z
      → has owner number x ≡ true → has owner number z ≡ true → z ≡ x
  name-once owner number [] x z own c e h k = absurd (Contains-none x c)
  name-once owner number (y ∷ xs) x z own c e h k =
      by_place (name-once owner number xs x z parts.1) (Contains-cases y xs x c) (Contains-cases y xs z e)
    where
      any : Bool
      any = list_any (named (owner_of y.item) (number_of y.item)) (map listed_item xs)

      parts : (not any ≡ true) × (all_own (map listed_item xs) ≡ true)
      parts = and_parts (not any) (all_own (map listed_item xs)) own

      at : (w : Listed I) → Contains xs w → has owner number y ≡ true → has owner number w ≡ true → ⊥
      at w there s t =
          let other = list_any-false (named (owner_of y.item) (number_of y.item)) (map listed_item xs) w.item (not-true any parts.0) (Contains-map listed_item xs w there) in
          false≢true (sym other ∙ one-name owner number y.item w.item s t)

      by_place : (Contains xs x → Contains xs z → has owner number x ≡ true → has owner number z ≡ true → z ≡ x) → (y ≡ x) ⊎ Contains xs x → (y ≡ z) ⊎ Contains xs z → z ≡ x
      by_place rest (inl a) (inl b) = sym b ∙ a
      by_place rest (inl a) (inr b) = absurd (at z b (ap (has owner number) a ∙ h) k)
      by_place rest (inr a) (inl b) = absurd (at x a (ap (has owner number) b ∙ k) h)
      by_place rest (inr a) (inr b) = rest a b h k

  -- the test by key is the test by name
  pub by-key : (owner number : ℕ) (xs : List (Listed I)) (x : Listed I) → AreDistinct (keys_in xs) → all_own (map listed_item xs) ≡ true → find (has owner number) xs ≡ Some x
      → All (λ (z : Listed I). (z.key == x.key) ≡ has owner number z) xs
  by-key owner number xs x d own f k e lt =
      let z = get_or xs k e in
      let here = find-Some (has owner number) xs x f in
      let there = Contains-get_or xs k e lt in
      same_tests (z.key == x.key) (has owner number z)
      (λ t. ap (has owner number) (key-once xs x z d here.contains there (eqb-true z.key x.key t)) ∙ here.passes)
      (λ t. eq-eqb z.key x.key (ap (λ (v : Listed I). v.key) (name-once owner number xs x z own here.contains there here.passes t)))

  -- ---- an item joins
  pub own_names-push : (os : List I) (o : I) → list_any (named (owner_of o) (number_of o)) os ≡ false → all_own os ≡ true → all_own (os ++ o ∷ []) ≡ true
  own_names-push [] o h own = refl
  own_names-push (y ∷ os) o h own =
      let any = list_any (named (owner_of y) (number_of y)) os in
      let out = or_parts (named (owner_of o) (number_of o) y) (list_any (named (owner_of o) (number_of o)) os) h in
      let parts = and_parts (not any) (all_own os) own in
      let here : named (owner_of y) (number_of y) o ≡ false = named-test (owner_of y) (number_of y) o ∙ out.0 in
      let none : list_any (named (owner_of y) (number_of y)) (os ++ o ∷ []) ≡ any = list_any-append (named (owner_of y) (number_of y)) os (o ∷ []) ∙ none_more any here in
      (λ i. (ap not none ∙ parts.0) i && own_names-push os o out.1 parts.1 i)
    where
      none_more : {b : Bool} (a : Bool) → b ≡ false → (a || (b || false)) ≡ a
      none_more true p = refl
      none_more false p = ap (λ b. b || false) p

  abbrev key_in : Option (Listed I) → Option ℕ
  key_in o = option_map (λ (x : Listed I). x.key) o

  last_if : (x : Listed I) (b : Bool) (o : Option (Listed I)) → (b ≡ true → o ≡ None) → key_in (option_or o (if b then Some x else None)) ≡ (if b then Some x.key else key_in o)
  last_if x true None h = refl
  last_if x true (Some y) h = absurd (let e : Some y ≡ None = h refl in cc)
  last_if x false None h = refl
  last_if x false (Some y) h = refl

  pub key_of-push : (owner number : ℕ) (xs : List (Listed I)) (x : Listed I) → list_any (named (owner_of x.item) (number_of x.item)) (map listed_item xs) ≡ false
      → key_named owner number (xs ++ x ∷ []) ≡ (if (owner == owner_of x.item) && (number == number_of x.item) then Some x.key else key_named owner number xs)
  key_of-push owner number xs x h =
      ap key_in (find-append (has owner number) xs (x ∷ [])) ∙ last_if x (has owner number x) (find (has owner number) xs) alone
      ∙ ap (λ (b : Bool). if b then Some x.key else key_named owner number xs) (named-test owner number x.item)
    where
      other : has owner number x ≡ true → (b : Bool) (z : Listed I) → Contains xs z → has owner number z ≡ b → b ≡ false
      other t false z there e = refl
      other t true z there e =
          let out = list_any-false (named (owner_of x.item) (number_of x.item)) (map listed_item xs) z.item h (Contains-map listed_item xs z there) in
          absurd (false≢true (sym out ∙ one-name owner number x.item z.item t e))

      alone : has owner number x ≡ true → find (has owner number) xs ≡ None
      alone t = find-none (has owner number) xs (λ z there. other t (has owner number z) z there refl)

  -- ---- an item leaves
  abbrev pub others : ℕ → ℕ → Listed I → Bool
  others owner number = keeps (λ (o : I). not (named owner number o))

  -- the item of a key leaves, which is that of a name
  pub left-by-key : (owner number : ℕ) (xs : List (Listed I)) (x : Listed I) → AreDistinct (keys_in xs) → all_own (map listed_item xs) ≡ true → find (has owner number) xs ≡ Some x
      → filter (is_other_key x.key) xs ≡ filter (others owner number) xs
  left-by-key owner number xs x d own f =
      filter-same (is_other_key x.key) (others owner number) xs (λ k e lt. ap not (by-key owner number xs x d own f k e lt))

  pub own_names-kept : (p : I → Bool) (os : List I) → all_own os ≡ true → all_own (filter p os) ≡ true
  own_names-kept p [] h = refl
  own_names-kept p (o ∷ os) h =
      kept_if (p o) (ap not (any-kept (named (owner_of o) (number_of o)) p os (not-true any parts.0))) (own_names-kept p os parts.1)
    where
      any : Bool
      any = list_any (named (owner_of o) (number_of o)) os

      parts : (not any ≡ true) × (all_own os ≡ true)
      parts = and_parts (not any) (all_own os) h

      kept_if : (b : Bool) → not (list_any (named (owner_of o) (number_of o)) (filter p os)) ≡ true → all_own (filter p os) ≡ true → all_own (if b then o ∷ filter p os else filter p os) ≡ true
      kept_if true at rest = (λ i. at i && rest i)
      kept_if false at rest = rest

  pub key_of-others : (m r owner number : ℕ) (xs : List (Listed I)) → key_named owner number (filter (others m r) xs) ≡ (if (owner == m) && (number == r) then None else key_named owner number xs)
  key_of-others m r owner number xs =
      ap key_in (find-filter (others m r) (has owner number) (not ((owner == m) && (number == r))) xs (λ x at. stays x)) ∙ turned ((owner == m) && (number == r))
    where
      stays : (x : Listed I) → has owner number x ≡ true → others m r x ≡ not ((owner == m) && (number == r))
      stays x e = (λ i. not (((named-is owner number x.item e).0 i == m) && ((named-is owner number x.item e).1 i == r)))

      turned : (b : Bool) → key_in (if not b then find (has owner number) xs else None) ≡ (if b then None else key_named owner number xs)
      turned true = refl
      turned false = refl

  pub nothing-removed : (owner number : ℕ) (os : List I) → list_any (named owner number) os ≡ false → without_name owner number os ≡ os
  nothing-removed owner number os h = keep-all (named owner number) os h

  -- ---- the items of an owner
  -- an owner has no stop where no number leads to one
  pub nothing-of : (owner : ℕ) (os : List I) → ((number : ℕ) → find (named owner number) os ≡ None) → without_owner owner os ≡ os
  nothing-of owner os h = keep-all (λ (o : I). (owner_of o) == owner) os (none os (λ number. none-found (named owner number) os (h number)))
    where
      none : (os : List I) → ((number : ℕ) → list_any (named owner number) os ≡ false) → list_any (λ (o : I). (owner_of o) == owner) os ≡ false
      none [] h = refl
      none (o ∷ os) h = none_if (owner_of o == owner) refl (or_parts (named owner (number_of o) o) (list_any (named owner (number_of o)) os) (h (number_of o))).0 (none os (λ r. (or_parts (named owner r o) (list_any (named owner r) os) (h r)).1))
        where
          self : (number_of o == number_of o) ≡ true
          self = grind (arith, nat_tests)

          none_if : (b : Bool) → (owner_of o == owner) ≡ b → (b && (number_of o == number_of o)) ≡ false → list_any (λ (o : I). (owner_of o) == owner) os ≡ false → (b || list_any (λ (o : I). (owner_of o) == owner) os) ≡ false
          none_if true e out rest = absurd (false≢true (sym out ∙ self))
          none_if false e out rest = rest

  -- once one of them has left, the others are left
  pub left-without : (owner number : ℕ) (os : List I) → without_owner owner (without_name owner number os) ≡ without_owner owner os
  left-without owner number [] = refl
  left-without owner number (o ∷ os) = left_if (owner_of o == owner) (number_of o == number) refl (left-without owner number os)
    where
      left_if : (b c : Bool) → (owner_of o == owner) ≡ b → without_owner owner (without_name owner number os) ≡ without_owner owner os
          → without_owner owner (if not (b && c) then o ∷ without_name owner number os else without_name owner number os) ≡ (if not b then o ∷ without_owner owner os else without_owner owner os)
      left_if true true e rest = rest
      left_if true false e rest = (λ i. if not (e i) then o ∷ rest i else rest i)
      left_if false c e rest = (λ i. if not (e i) then o ∷ rest i else rest i)

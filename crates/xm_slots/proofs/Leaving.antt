-- The entry of a key leaves.
use Rattle.std.proofs.Common.{◌≡◌, ℕ, suc, ◌+◌, Bool, true, false, not, if◌then◌else◌, List, [], ◌∷◌, length, get_or, filter, find, Contains, Option, Some, None, IsSome, refl, rules, sym, ap, ◌∙◌, subst, ◌⊎◌, inl, inr, arith, nat_eq}
use Rattle.std.specs.List.{All}
use Rattle.std.proofs.lemmas.Bool.{eqb-true, false≢true}
use Rattle.std.proofs.lemmas.Bool.Decides.{nat_tests}
use Rattle.std.proofs.lemmas.List.{length-map}
use Rattle.std.proofs.lemmas.List.Elements.{All-cons, All-contains, Contains-get_or}
use Rattle.xm_queues.specs.Keys.{AreDistinct, without}
use Rattle.xm_slots.specs.Listing.{LiesAt, is_other_key, keys_in}
use Rattle.xm_slots.specs.Slots.{ContainsKey, SlotsView, get, used}
use Rattle.xm_slots.specs.declared.entry.Entry.{Entry}
use Rattle.xm_slots.specs.declared.listing.Listed.{Listed}
use Rattle.xm_slots.proofs.Members.{Contains-cases, Contains-map, Contains-none, IsMade-map, Passes-filter, find-None, find-Some}
use Rattle.xm_slots.proofs.SlotKeys.{keys-within}

pub itself : (n : ℕ) → nat_eq n n ≡ true
itself n = grind (arith, nat_tests)

module _ {I : Type 0} where
  -- the keys of those that stay
  pub keys-left : (key : ℕ) (xs : List (Listed I)) → keys_in (filter (is_other_key key) xs) ≡ without key (keys_in xs)
  keys-left key [] = refl
  keys-left key (x ∷ xs) = left_if (nat_eq x.key key) (keys-left key xs)
    where
      left_if : (b : Bool) → keys_in (filter (is_other_key key) xs) ≡ without key (keys_in xs)
          → keys_in (if not b then x ∷ filter (is_other_key key) xs else filter (is_other_key key) xs) ≡ (if not b then x.key ∷ without key (keys_in xs) else without key (keys_in xs))
      left_if true h = h
      left_if false h = ap (λ (ks : List ℕ). x.key ∷ ks) h

  -- where no entry has the key, all stay
  pub all-stay : (key : ℕ) (xs : List (Listed I)) → (Contains (keys_in xs) key → ⊥) → filter (is_other_key key) xs ≡ xs
  all-stay key [] h = refl
  all-stay key (x ∷ xs) h =
      stay_if (nat_eq x.key key) refl (all-stay key xs (λ at. h (suc at.0, omega (arith, at.1), at.2)))
    where
      stay_if : (b : Bool) → nat_eq x.key key ≡ b → filter (is_other_key key) xs ≡ xs → (if not b then x ∷ filter (is_other_key key) xs else filter (is_other_key key) xs) ≡ x ∷ xs
      stay_if true e rest = absurd (h (0, omega arith, eqb-true x.key key e))
      stay_if false e rest = ap (λ (ys : List (Listed I)). x ∷ ys) rest

  -- keys stay different
  pub distinct-left : (key : ℕ) (xs : List (Listed I)) → AreDistinct (keys_in xs) → AreDistinct (keys_in (filter (is_other_key key) xs))
  distinct-left key [] d = tt
  distinct-left key (x ∷ xs) d = left_if (nat_eq x.key key) (distinct-left key xs d.1)
    where
      still : Contains (keys_in (filter (is_other_key key) xs)) x.key → ⊥
      still c =
          let made = IsMade-map (λ (y : Listed I). y.key) (filter (is_other_key key) xs) x.key c in
          d.0 (subst (λ (k : ℕ). Contains (keys_in xs) k) made.made (Contains-map (λ (y : Listed I). y.key) xs made.from (Passes-filter (is_other_key key) xs made.from made.contains).contains))

      left_if : (b : Bool) → AreDistinct (keys_in (filter (is_other_key key) xs)) → AreDistinct (keys_in (if not b then x ∷ filter (is_other_key key) xs else filter (is_other_key key) xs))
      left_if true h = h
      left_if false h = (still, h)

  -- one entry leaves
  pub one-less : (x : Listed I) (xs : List (Listed I)) → AreDistinct (keys_in xs) → Contains xs x → length (filter (is_other_key x.key) xs) + 1 ≡ length xs
  one-less x [] d at = absurd (Contains-none x at)
  one-less x (y ∷ ys) d at = less_by (λ c. one-less x ys d.1 c) (Contains-cases y ys x at)
    where
      gone : (b : Bool) → nat_eq y.key x.key ≡ b → y ≡ x → length (filter (is_other_key x.key) (y ∷ ys)) + 1 ≡ length (y ∷ ys)
      gone true e same =
          let stay = all-stay x.key ys (λ c. d.0 (subst (λ (k : ℕ). Contains (keys_in ys) k) (sym (eqb-true y.key x.key e)) c)) in
          let left : filter (is_other_key x.key) (y ∷ ys) ≡ ys = (λ i. if not (e i) then y ∷ filter (is_other_key x.key) ys else filter (is_other_key x.key) ys) ∙ stay in
          omega (arith, ap length left)
      gone false e same = absurd (false≢true (sym e ∙ ap (λ (z : Listed I). nat_eq z.key x.key) same ∙ itself x.key))

      later : (Contains ys x → length (filter (is_other_key x.key) ys) + 1 ≡ length ys) → (b : Bool) → nat_eq y.key x.key ≡ b → Contains ys x
          → length (filter (is_other_key x.key) (y ∷ ys)) + 1 ≡ length (y ∷ ys)
      later more true e c = absurd (d.0 (subst (λ (k : ℕ). Contains (keys_in ys) k) (sym (eqb-true y.key x.key e)) (Contains-map (λ (z : Listed I). z.key) ys x c)))
      later more false e c =
          let rest = more c in
          let left : filter (is_other_key x.key) (y ∷ ys) ≡ y ∷ filter (is_other_key x.key) ys = (λ i. if not (e i) then y ∷ filter (is_other_key x.key) ys else filter (is_other_key x.key) ys) in
          omega (arith, ap length left, rest)

      less_by : (Contains ys x → length (filter (is_other_key x.key) ys) + 1 ≡ length ys) → (y ≡ x) ⊎ Contains ys x → length (filter (is_other_key x.key) (y ∷ ys)) + 1 ≡ length (y ∷ ys)
      less_by more (inl same) = gone (nat_eq y.key x.key) refl same
      less_by more (inr c) = later more (nat_eq y.key x.key) refl c

  -- tests in either order
  pub filters : (p q : Listed I → Bool) (xs : List (Listed I)) → filter p (filter q xs) ≡ filter q (filter p xs)
  filters p q [] = refl
  filters p q (x ∷ xs) = both (p x) refl (q x) refl (filters p q xs)
    where
      both : (a : Bool) → p x ≡ a → (b : Bool) → q x ≡ b → filter p (filter q xs) ≡ filter q (filter p xs)
          → filter p (if b then x ∷ filter q xs else filter q xs) ≡ filter q (if a then x ∷ filter p xs else filter p xs)
      both true e true f h = (λ i. if e i then x ∷ filter p (filter q xs) else filter p (filter q xs)) ∙ ap (λ (ys : List (Listed I)). x ∷ ys) h ∙ sym (λ i. if f i then x ∷ filter q (filter p xs) else filter q (filter p xs))
      both true e false f h = h ∙ sym (λ i. if f i then x ∷ filter q (filter p xs) else filter q (filter p xs))
      both false e true f h = (λ i. if e i then x ∷ filter p (filter q xs) else filter p (filter q xs)) ∙ h
      both false e false f h = h

  -- ---- under a key is one entry alone
  pub key-once : (xs : List (Listed I)) (x z : Listed I) → AreDistinct (keys_in xs) → Contains xs x → Contains xs z → z.key ≡ x.key → z ≡ x
  key-once [] x z d c e k = absurd (Contains-none x c)
  key-once (y ∷ xs) x z d c e k = by_place (key-once xs x z d.1) (Contains-cases y xs x c) (Contains-cases y xs z e)
    where
      at : (w : Listed I) → Contains xs w → w.key ≡ y.key → ⊥
      at w there same = d.0 (subst (λ (n : ℕ). Contains (keys_in xs) n) same (Contains-map (λ (v : Listed I). v.key) xs w there))

      by_place : (Contains xs x → Contains xs z → z.key ≡ x.key → z ≡ x) → (y ≡ x) ⊎ Contains xs x → (y ≡ z) ⊎ Contains xs z → z ≡ x
      by_place rest (inl a) (inl b) = sym b ∙ a
      by_place rest (inl a) (inr b) = absurd (at z b (k ∙ sym (ap (λ (v : Listed I). v.key) a)))
      by_place rest (inr a) (inl b) = absurd (at x a (sym k ∙ sym (ap (λ (v : Listed I). v.key) b)))
      by_place rest (inr a) (inr b) = rest a b k

  pub distinct-kept : (p : Listed I → Bool) (xs : List (Listed I)) → AreDistinct (keys_in xs) → AreDistinct (keys_in (filter p xs))
  distinct-kept p [] d = tt
  distinct-kept p (x ∷ xs) d = kept_if (p x) (distinct-kept p xs d.1)
    where
      still : Contains (keys_in (filter p xs)) x.key → ⊥
      still c =
          let made = IsMade-map (λ (y : Listed I). y.key) (filter p xs) x.key c in
          d.0 (subst (λ (k : ℕ). Contains (keys_in xs) k) made.made (Contains-map (λ (y : Listed I). y.key) xs made.from (Passes-filter p xs made.from made.contains).contains))

      kept_if : (b : Bool) → AreDistinct (keys_in (filter p xs)) → AreDistinct (keys_in (if b then x ∷ filter p xs else filter p xs))
      kept_if true h = (still, h)
      kept_if false h = h

  -- where an entry leaves, those that pass a test which it fails stay
  pub others-pass : (p : Listed I → Bool) (xs : List (Listed I)) (x : Listed I) → AreDistinct (keys_in xs) → Contains xs x → p x ≡ false
      → filter p (filter (is_other_key x.key) xs) ≡ filter p xs
  others-pass p xs x d at fails =
      filters p (is_other_key x.key) xs ∙ all-stay x.key (filter p xs) absent
    where
      absent : Contains (keys_in (filter p xs)) x.key → ⊥
      absent c =
          let made = IsMade-map (λ (y : Listed I). y.key) (filter p xs) x.key c in
          let passes = Passes-filter p xs made.from made.contains in
          let same : made.from ≡ x = key-once xs x made.from d at passes.contains made.made in
          let k : true ≡ false = sym passes.passes ∙ ap p same ∙ fails in
          cc

  module _ (xs : List (Listed I)) (entries : SlotsView I) (lie : All (LiesAt entries) xs) where
    -- the entry of a key that is listed
    pub listed-at : (key : ℕ) → Contains (keys_in xs) key → (x : Listed I) × (Contains xs x) × (x.key ≡ key) × LiesAt entries x
    listed-at key at =
        let made = IsMade-map (λ (x : Listed I). x.key) xs key at in
        (made.from, made.contains, made.made, All-contains (LiesAt entries) xs made.from lie made.contains)

    pub there-at : (key : ℕ) → Contains (keys_in xs) key → ContainsKey entries key
    there-at key at = let l = listed-at key at in some_at (get entries key) (sym (ap (get entries) l.2) ∙ l.3)
      where
        some_at : {e : Entry I} (o : Option (Entry I)) → o ≡ Some e → IsSome o
        some_at None e = absurd (cc)
        some_at (Some y) e = search rules

    module _ (distinct : AreDistinct (keys_in xs)) (count : used entries ≡ length xs) where
      -- a key that has an entry is listed
      pub key-listed : (key : ℕ) → ContainsKey entries key → Contains (keys_in xs) key
      key-listed key there = by_find (find (λ (k : ℕ). nat_eq k key) (keys_in xs)) refl
        where
          each-there : All (λ (k : ℕ). ContainsKey entries k) (keys_in xs)
          each-there i d lt = there-at (get_or (keys_in xs) i d) (Contains-get_or (keys_in xs) i d lt)

          by_find : (o : Option ℕ) → find (λ (k : ℕ). nat_eq k key) (keys_in xs) ≡ o → Contains (keys_in xs) key
          by_find (Some k) e =
              let found = find-Some (λ (k : ℕ). nat_eq k key) (keys_in xs) k e in
              subst (λ (n : ℕ). Contains (keys_in xs) n) (eqb-true k key found.passes) found.contains
          by_find None e =
              let absent : Contains (keys_in xs) key → ⊥ = λ at. false≢true (sym (find-None (λ (k : ℕ). nat_eq k key) (keys_in xs) key e at) ∙ itself key) in
              let within = keys-within (key ∷ keys_in xs) entries.slots (absent, distinct) (All-cons (λ (k : ℕ). ContainsKey entries k) key (keys_in xs) there each-there) in
              absurd (omega (arith, within, count, length-map xs (λ (x : Listed I). x.key)))

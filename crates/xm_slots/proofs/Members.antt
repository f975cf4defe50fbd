-- What a list holds: one with a first element, the part that passes a test, what a function makes of it, and the first that
-- passes a test.
use Rattle.std.proofs.Common.{◌≡◌, ℕ, zero, suc, ◌<◌, Bool, true, false, ◌&&◌, cond, List, [], ◌∷◌, length, map, filter, find, get_or, Contains, Option, Some, None, refl, ap, subst, ◌∙◌, ◌⊎◌, inl, inr, arith}
use Rattle.std.specs.List.{list_any, filter_map, cons_option}
use Rattle.std.proofs.lemmas.Bool.{or_parts, or_from}

module _ {X : Type 0} where
  pub Contains-here : (x : X) (xs : List X) → Contains (x ∷ xs) x
  Contains-here x xs = (0, omega arith, refl)

  pub Contains-there : (x : X) (xs : List X) (y : X) → Contains xs y → Contains (x ∷ xs) y
  Contains-there x xs y h = (suc h.0, (let l = h.1 in omega arith), h.2)

  pub Contains-none : (y : X) → Contains [] y → ⊥
  Contains-none y h = let l = h.1 in omega arith

  cases_at : (x : X) (xs : List X) (y : X) (k : ℕ) → k < length (x ∷ xs) → get_or (x ∷ xs) k y ≡ y → (x ≡ y) ⊎ Contains xs y
  cases_at x xs y zero l e = inl e
  cases_at x xs y (suc k) l e = inr (k, omega arith, e)

  pub Contains-cases : (x : X) (xs : List X) (y : X) → Contains (x ∷ xs) y → (x ≡ y) ⊎ Contains xs y
  Contains-cases x xs y h = cases_at x xs y h.0 h.1 h.2

  -- the part that passes a test
  kept_if : (p : X → Bool) (x : X) (xs : List X) (y : X) (b : Bool) → p x ≡ b → p y ≡ true → (x ≡ y) ⊎ Contains xs y
      → (Contains xs y → Contains (filter p xs) y) → Contains (cond b (x ∷ filter p xs) (filter p xs)) y
  kept_if p x xs y true e h (inl same) rest = subst (λ (z : X). Contains (x ∷ filter p xs) z) same (Contains-here x (filter p xs))
  kept_if p x xs y true e h (inr later) rest = Contains-there x (filter p xs) y (rest later)
  kept_if p x xs y false e h (inl same) rest = absurd (let f : p x ≡ p y = ap p same in cc)
  kept_if p x xs y false e h (inr later) rest = rest later

  pub Contains-filter : (p : X → Bool) (xs : List X) (y : X) → p y ≡ true → Contains xs y → Contains (filter p xs) y
  Contains-filter p [] y h at = at
  Contains-filter p (x ∷ xs) y h at = kept_if p x xs y (p x) refl h (Contains-cases x xs y at) (Contains-filter p xs y h)

  pub record Passes (p : X → Bool) (xs : List X) (y : X) : Type 0 where
    pub contains : Contains xs y
    pub passes : p y ≡ true

  later_passes : (p : X → Bool) (x : X) (xs : List X) (y : X) → Passes p xs y → Passes p (x ∷ xs) y
  later_passes p x xs y h = record { contains = Contains-there x xs y h.contains; passes = h.passes }

  here_passes : (p : X → Bool) (x : X) (xs : List X) (y : X) → p x ≡ true → x ≡ y → Passes p (x ∷ xs) y
  here_passes p x xs y e same = subst (λ (z : X). Passes p (x ∷ xs) z) same (record { contains = Contains-here x xs; passes = e })

  passed_by : (p : X → Bool) (x : X) (xs : List X) (y : X) → p x ≡ true → (Contains (filter p xs) y → Passes p xs y)
      → (x ≡ y) ⊎ Contains (filter p xs) y → Passes p (x ∷ xs) y
  passed_by p x xs y e rest (inl same) = here_passes p x xs y e same
  passed_by p x xs y e rest (inr later) = later_passes p x xs y (rest later)

  passed_if : (p : X → Bool) (x : X) (xs : List X) (y : X) (b : Bool) → p x ≡ b → (Contains (filter p xs) y → Passes p xs y)
      → Contains (cond b (x ∷ filter p xs) (filter p xs)) y → Passes p (x ∷ xs) y
  passed_if p x xs y true e rest at = passed_by p x xs y e rest (Contains-cases x (filter p xs) y at)
  passed_if p x xs y false e rest at = later_passes p x xs y (rest at)

  pub Passes-filter : (p : X → Bool) (xs : List X) (y : X) → Contains (filter p xs) y → Passes p xs y
  Passes-filter p [] y at = absurd (Contains-none y at)
  Passes-filter p (x ∷ xs) y at = passed_if p x xs y (p x) refl (Passes-filter p xs y) at

  -- whether one passes
  none_at : (p : X → Bool) (x : X) (xs : List X) (y : X) → p x ≡ false → (Contains xs y → p y ≡ false) → (x ≡ y) ⊎ Contains xs y → p y ≡ false
  none_at p x xs y e rest (inl same) = subst (λ (z : X). p z ≡ false) same e
  none_at p x xs y e rest (inr later) = rest later

  pub list_any-false : (p : X → Bool) (xs : List X) (y : X) → list_any p xs ≡ false → Contains xs y → p y ≡ false
  list_any-false p [] y e at = absurd (Contains-none y at)
  list_any-false p (x ∷ xs) y e at =
      let parts = or_parts (p x) (list_any p xs) e in
      none_at p x xs y parts.0 (list_any-false p xs y parts.1) (Contains-cases x xs y at)

  pub list_any-none : (p : X → Bool) (xs : List X) → ((y : X) → Contains xs y → p y ≡ false) → list_any p xs ≡ false
  list_any-none p [] none = refl
  list_any-none p (x ∷ xs) none =
      or_from (p x) (list_any p xs) (none x (Contains-here x xs)) (list_any-none p xs (λ y at. none y (Contains-there x xs y at)))

  -- the first that passes
  found_if : (p : X → Bool) (x : X) (xs : List X) (y : X) (b : Bool) → p x ≡ b → (find p xs ≡ Some y → Passes p xs y)
      → cond b (Some x) (find p xs) ≡ Some y → Passes p (x ∷ xs) y
  found_if p x xs y true e rest h = here_passes p x xs y e (cc)
  found_if p x xs y false e rest h = later_passes p x xs y (rest h)

  pub find-Some : (p : X → Bool) (xs : List X) (y : X) → find p xs ≡ Some y → Passes p xs y
  find-Some p [] y h = absurd (cc)
  find-Some p (x ∷ xs) y h = found_if p x xs y (p x) refl (find-Some p xs y) h

  missed_if : (p : X → Bool) (x : X) (xs : List X) (y : X) (b : Bool) → p x ≡ b → (find p xs ≡ None → Contains xs y → p y ≡ false)
      → cond b (Some x) (find p xs) ≡ None → (x ≡ y) ⊎ Contains xs y → p y ≡ false
  missed_if p x xs y true e rest h at = absurd (cc)
  missed_if p x xs y false e rest h at = none_at p x xs y e (rest h) at

  pub find-None : (p : X → Bool) (xs : List X) (y : X) → find p xs ≡ None → Contains xs y → p y ≡ false
  find-None p [] y h at = absurd (Contains-none y at)
  find-None p (x ∷ xs) y h at = missed_if p x xs y (p x) refl (find-None p xs y) h (Contains-cases x xs y at)

  pub find-none : (p : X → Bool) (xs : List X) → ((y : X) → Contains xs y → p y ≡ false) → find p xs ≡ None
  find-none p [] none = refl
  find-none p (x ∷ xs) none = rw (none x (Contains-here x xs)) (find-none p xs (λ y at. none y (Contains-there x xs y at)))

  only : (p : X → Bool) (xs : List X) (y : X) (o : Option X) → find p xs ≡ o → Passes p xs y → ((z : X) → Contains xs z → p z ≡ true → z ≡ y) → o ≡ Some y
  only p xs y None e h one = absurd (let f : p y ≡ false = find-None p xs y e h.contains in let t = h.passes in cc)
  only p xs y (Some z) e h one = let found = find-Some p xs z e in ap (λ (x : X). Some x) (one z found.contains found.passes)

  -- the only one that passes
  pub find-only : (p : X → Bool) (xs : List X) (y : X) → Passes p xs y → ((z : X) → Contains xs z → p z ≡ true → z ≡ y) → find p xs ≡ Some y
  find-only p xs y h one = only p xs y (find p xs) refl h one

  -- nothing is kept where nothing passes
  pub filter_none : (p : X → Bool) (xs : List X) → ((y : X) → Contains xs y → p y ≡ false) → filter p xs ≡ []
  filter_none p [] none = refl
  filter_none p (x ∷ xs) none = rw (none x (Contains-here x xs)) (filter_none p xs (λ y at. none y (Contains-there x xs y at)))

  both_if : (p q : X → Bool) (x : X) (xs : List X) (b : Bool) → p x ≡ b → filter q (filter p xs) ≡ filter (λ y. p y && q y) xs
      → filter q (filter p (x ∷ xs)) ≡ filter (λ y. p y && q y) (x ∷ xs)
  both_if p q x xs true e rest = rw (e, rest) refl
  both_if p q x xs false e rest = rw (e, rest) refl

  -- two filters are one
  pub filter-filter : (p q : X → Bool) (xs : List X) → filter q (filter p xs) ≡ filter (λ y. p y && q y) xs
  filter-filter p q [] = refl
  filter-filter p q (x ∷ xs) = both_if p q x xs (p x) refl (filter-filter p q xs)

  -- what passes all leaves all
  pub filter_all : (xs : List X) → filter (λ y. true) xs ≡ xs
  filter_all [] = refl
  filter_all (x ∷ xs) = ap (λ (l : List X). x ∷ l) (filter_all xs)

module _ {X Y : Type 0} where
  mapped_by : (f : X → Y) (y : X) (xs : List X) (x : X) → (Contains xs x → Contains (map f xs) (f x)) → (y ≡ x) ⊎ Contains xs x → Contains (map f (y ∷ xs)) (f x)
  mapped_by f y xs x rest (inl same) = subst (λ (z : X). Contains (f y ∷ map f xs) (f z)) same (Contains-here (f y) (map f xs))
  mapped_by f y xs x rest (inr later) = Contains-there (f y) (map f xs) (f x) (rest later)

  pub Contains-map : (f : X → Y) (xs : List X) (x : X) → Contains xs x → Contains (map f xs) (f x)
  Contains-map f [] x at = absurd (Contains-none x at)
  Contains-map f (y ∷ xs) x at = mapped_by f y xs x (Contains-map f xs x) (Contains-cases y xs x at)

  pub record IsMade (f : X → Y) (xs : List X) (y : Y) : Type 0 where
    pub from : X
    pub contains : Contains xs from
    pub made : f from ≡ y

  later_made : (f : X → Y) (x : X) (xs : List X) (y : Y) → IsMade f xs y → IsMade f (x ∷ xs) y
  later_made f x xs y h = record { from = h.from; contains = Contains-there x xs h.from h.contains; made = h.made }

  made_by : (f : X → Y) (x : X) (xs : List X) (y : Y) → (Contains (map f xs) y → IsMade f xs y) → (f x ≡ y) ⊎ Contains (map f xs) y → IsMade f (x ∷ xs) y
  made_by f x xs y rest (inl same) = record { from = x; contains = Contains-here x xs; made = same }
  made_by f x xs y rest (inr later) = later_made f x xs y (rest later)

  pub IsMade-map : (f : X → Y) (xs : List X) (y : Y) → Contains (map f xs) y → IsMade f xs y
  IsMade-map f [] y at = absurd (Contains-none y at)
  IsMade-map f (x ∷ xs) y at = made_by f x xs y (IsMade-map f xs y) (Contains-cases (f x) (map f xs) y at)

  -- what a function gives of the elements of a list
  given_if : (h : X → Option Y) (x : X) (xs : List X) (y : X) (z : Y) (o : Option Y) → h x ≡ o → h y ≡ Some z → (x ≡ y) ⊎ Contains xs y
      → (Contains xs y → Contains (filter_map h xs) z) → Contains (cons_option o (filter_map h xs)) z
  given_if h x xs y z None e i (inl same) rest = absurd (let f : h x ≡ h y = ap h same in cc)
  given_if h x xs y z (Some w) e i (inl same) rest =
      let f : h x ≡ h y = ap h same in
      let made : w ≡ z = cc in
      subst (λ (v : Y). Contains (w ∷ filter_map h xs) v) made (Contains-here w (filter_map h xs))
  given_if h x xs y z None e i (inr later) rest = rest later
  given_if h x xs y z (Some w) e i (inr later) rest = Contains-there w (filter_map h xs) z (rest later)

  pub Contains-filter_map : (h : X → Option Y) (xs : List X) (y : X) (z : Y) → h y ≡ Some z → Contains xs y → Contains (filter_map h xs) z
  Contains-filter_map h [] y z e at = absurd (Contains-none y at)
  Contains-filter_map h (x ∷ xs) y z e at = given_if h x xs y z (h x) refl e (Contains-cases x xs y at) (Contains-filter_map h xs y z e)

  pub record IsGiven (h : X → Option Y) (xs : List X) (z : Y) : Type 0 where
    pub from : X
    pub contains : Contains xs from
    pub given : h from ≡ Some z

  later_given : (h : X → Option Y) (x : X) (xs : List X) (z : Y) → IsGiven h xs z → IsGiven h (x ∷ xs) z
  later_given h x xs z i = record { from = i.from; contains = Contains-there x xs i.from i.contains; given = i.given }

  given_by : (h : X → Option Y) (x : X) (xs : List X) (w z : Y) → h x ≡ Some w → (Contains (filter_map h xs) z → IsGiven h xs z) → (w ≡ z) ⊎ Contains (filter_map h xs) z → IsGiven h (x ∷ xs) z
  given_by h x xs w z e rest (inl same) = record { from = x; contains = Contains-here x xs; given = e ∙ ap (λ (v : Y). Some v) same }
  given_by h x xs w z e rest (inr later) = later_given h x xs z (rest later)

  given_from : (h : X → Option Y) (x : X) (xs : List X) (z : Y) (o : Option Y) → h x ≡ o → (Contains (filter_map h xs) z → IsGiven h xs z)
      → Contains (cons_option o (filter_map h xs)) z → IsGiven h (x ∷ xs) z
  given_from h x xs z None e rest at = later_given h x xs z (rest at)
  given_from h x xs z (Some w) e rest at = given_by h x xs w z e rest (Contains-cases w (filter_map h xs) z at)

  pub IsGiven-filter_map : (h : X → Option Y) (xs : List X) (z : Y) → Contains (filter_map h xs) z → IsGiven h xs z
  IsGiven-filter_map h [] z at = absurd (Contains-none z at)
  IsGiven-filter_map h (x ∷ xs) z at = given_from h x xs z (h x) refl (IsGiven-filter_map h xs z) at

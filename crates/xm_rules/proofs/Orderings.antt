-- A sum over a list that is put in order is the sum over the list.
use Rattle.std.proofs.Common.{◌≡◌, ℕ, ◌+◌, Bool, true, false, if◌then◌else◌, List, [], ◌∷◌, map, filter, sum_by, Option, Some, None, refl, ◌∙◌, arith}
use Rattle.std.specs.List.{filter_map, flat_map}
use Rattle.std.specs.Prelude.{nat_le}
use Rattle.std.proofs.lemmas.List.Sums.{sum_by-cons, sum_by-append}
use Rattle.xm_rules.specs.Priority.{insert_in_order, sorted, in_order}

module _ {A : Type 0} (f : A → ℕ) where
  abbrev pub by_second : ℕ × A → ℕ
  by_second x = f x.1

  inserted_if : (b : Bool) (x y : ℕ × A) (ys zs : List (ℕ × A)) → sum_by by_second zs ≡ by_second x + sum_by by_second ys
      → sum_by by_second (if b then x ∷ y ∷ ys else y ∷ zs) ≡ by_second x + (by_second y + sum_by by_second ys)
  inserted_if true x y ys zs e = omega (arith, sum_by-cons by_second x (y ∷ ys), sum_by-cons by_second y ys)
  inserted_if false x y ys zs e = omega (arith, sum_by-cons by_second y zs)

  inserted : (x : ℕ × A) (ys : List (ℕ × A)) → sum_by by_second (insert_in_order x ys) ≡ by_second x + sum_by by_second ys
  inserted x [] = sum_by-cons by_second x []
  inserted x (y ∷ ys) =
      omega (arith, sum_by-cons by_second y ys, inserted_if (nat_le x.0 y.0) x y ys (insert_in_order x ys) (inserted x ys))

  sum_sorted : (xs : List (ℕ × A)) → sum_by by_second (sorted xs) ≡ sum_by by_second xs
  sum_sorted [] = refl
  sum_sorted (x ∷ xs) = omega (arith, inserted x (sorted xs), sum_sorted xs, sum_by-cons by_second x xs)

  sum_seconds : (xs : List (ℕ × A)) → sum_by f (map (λ (x : ℕ × A). x.1) xs) ≡ sum_by by_second xs
  sum_seconds [] = refl
  sum_seconds (x ∷ xs) = omega (arith, sum_by-cons f x.1 (map (λ (y : ℕ × A). y.1) xs), sum_by-cons by_second x xs, sum_seconds xs)

  pub sum-in_order : (xs : List (ℕ × A)) → sum_by f (in_order xs) ≡ sum_by by_second xs
  sum-in_order xs = sum_seconds (sorted xs) ∙ sum_sorted xs

module _ {Y : Type 0} where
  -- what a number of an answer is, where there is one
  abbrev pub of_some : (Y → ℕ) → Option Y → ℕ
  of_some f None = 0
  of_some f (Some y) = f y

module _ {X Y : Type 0} where
  pub sum-map : (f : Y → ℕ) (h : X → Y) (xs : List X) → sum_by f (map h xs) ≡ sum_by (λ x. f (h x)) xs
  sum-map f h [] = refl
  sum-map f h (x ∷ xs) = omega (arith, sum_by-cons f (h x) (map h xs), sum_by-cons (λ y. f (h y)) x xs, sum-map f h xs)

  pub sum-flat_map : (f : Y → ℕ) (h : X → List Y) (xs : List X) → sum_by f (flat_map h xs) ≡ sum_by (λ x. sum_by f (h x)) xs
  sum-flat_map f h [] = refl
  sum-flat_map f h (x ∷ xs) = omega (arith, sum_by-append f (h x) (flat_map h xs), sum_by-cons (λ y. sum_by f (h y)) x xs, sum-flat_map f h xs)

  filter_map_if : (f : Y → ℕ) (h : X → Option Y) (x : X) (xs : List X) (o : Option Y) → h x ≡ o → sum_by f (filter_map h xs) ≡ sum_by (λ y. of_some f (h y)) xs
      → sum_by f (filter_map h (x ∷ xs)) ≡ of_some f o + sum_by (λ y. of_some f (h y)) xs
  filter_map_if f h x xs None e i = rw e (omega arith)
  filter_map_if f h x xs (Some y) e i = rw e (omega (arith, sum_by-cons f y (filter_map h xs)))

  pub sum-filter_map : (f : Y → ℕ) (h : X → Option Y) (xs : List X) → sum_by f (filter_map h xs) ≡ sum_by (λ x. of_some f (h x)) xs
  sum-filter_map f h [] = refl
  sum-filter_map f h (x ∷ xs) =
      omega (arith, filter_map_if f h x xs (h x) refl (sum-filter_map f h xs), sum_by-cons (λ y. of_some f (h y)) x xs)

module _ {X : Type 0} where
  filter_if : (f : X → ℕ) (p : X → Bool) (x : X) (xs : List X) (b : Bool) → p x ≡ b → sum_by f (filter p xs) ≡ sum_by (λ y. if p y then f y else 0) xs
      → sum_by f (filter p (x ∷ xs)) ≡ (if b then f x else 0) + sum_by (λ y. if p y then f y else 0) xs
  filter_if f p x xs true e i = rw e (omega (arith, sum_by-cons f x (filter p xs)))
  filter_if f p x xs false e i = rw e (omega arith)

  pub sum-filter : (f : X → ℕ) (p : X → Bool) (xs : List X) → sum_by f (filter p xs) ≡ sum_by (λ x. if p x then f x else 0) xs
  sum-filter f p [] = refl
  sum-filter f p (x ∷ xs) =
      omega (arith, filter_if f p x xs (p x) refl (sum-filter f p xs), sum_by-cons (λ y. if p y then f y else 0) x xs)

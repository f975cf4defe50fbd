-- Sums of what passes a test.
use Rattle.std.proofs.Common.{◌≡◌, ℕ, ◌+◌, zero, suc, Bool, true, false, not, if◌then◌else◌, cond, List, [], ◌∷◌, filter, sum_by, refl, sym, ◌∙◌, arith}
use Rattle.std.proofs.lemmas.List.Sums.{sum_by-cons}
use Rattle.xm_rules.proofs.Orderings.{sum-filter}
use Rattle.xm_rules.proofs.Sums.{sum-add, sum-each, sum-zero}

-- ---- numbers under a test

-- nothing is nothing, whether it passes or not
pub zero_if : (b : Bool) (n : ℕ) → n ≡ 0 → ◌≡◌ {A = ℕ} (if b then n else 0) 0
zero_if true n e = e
zero_if false n e = refl

-- where a test fails, nothing is there
pub failed_if : (b : Bool) (n : ℕ) → b ≡ false → ◌≡◌ {A = ℕ} (if b then n else 0) 0
failed_if true n e = absurd (cc)
failed_if false n e = refl

-- two equal numbers under one test
pub same_if : (b : Bool) (n m : ℕ) → n ≡ m → ◌≡◌ {A = ℕ} (if b then n else 0) (if b then m else 0)
same_if true n m e = e
same_if false n m e = refl

-- two parts under one test
pub parts_if : (b : Bool) (n m k : ℕ) → n + m ≡ k → (if b then n else 0) + (if b then m else 0) ≡ (if b then k else 0)
parts_if true n m k e = e
parts_if false n m k e = omega arith

-- two tests in either order
pub swap_if : (a b : Bool) (n : ℕ) → ◌≡◌ {A = ℕ} (if a then (if b then n else 0) else 0) (if b then (if a then n else 0) else 0)
swap_if true b n = refl
swap_if false true n = refl
swap_if false false n = refl

-- a test that fails where another one passes
pub apart_if : (a b : Bool) (n : ℕ) → (a ≡ true → b ≡ false) → ◌≡◌ {A = ℕ} (if a then (if b then n else 0) else 0) 0
apart_if true b n h = failed_if b n (h refl)
apart_if false b n h = refl

-- a test that fails where another one fails
pub narrower_if : (a b : Bool) (n : ℕ) → (a ≡ false → b ≡ false) → ◌≡◌ {A = ℕ} (if a then (if b then n else 0) else 0) (if b then n else 0)
narrower_if true b n h = refl
narrower_if false b n h = sym (failed_if b n (h refl))

one_more_if : (b : Bool) (n : ℕ) → ◌≡◌ {A = ℕ} (if b then suc n else 0) (cond b 1 0 + (if b then n else 0))
one_more_if true n = omega arith
one_more_if false n = omega arith

-- ---- sums

-- a test that doesn't turn on what is summed
pub sum-under : {X : Type 0} (b : Bool) (f : X → ℕ) (xs : List X) → sum_by (λ x. if b then f x else 0) xs ≡ (if b then sum_by f xs else 0)
sum-under true f xs = refl
sum-under false f xs = sum-zero (λ x. 0) xs (λ x. refl)

-- over pairs, by the first ones or by the second ones
pub sum-swap : {X Y : Type 0} (f : X → Y → ℕ) (xs : List X) (ys : List Y) → sum_by (λ x. sum_by (f x) ys) xs ≡ sum_by (λ y. sum_by (λ x. f x y) xs) ys
sum-swap f [] ys = sym (sum-zero (λ y. 0) ys (λ y. refl))
sum-swap f (x ∷ xs) ys =
    omega (
      arith,
      sum_by-cons (λ z. sum_by (f z) ys) x xs,
      sum-swap f xs ys,
      sum-each (λ y. sum_by (λ z. f z y) (x ∷ xs)) (λ y. f x y + sum_by (λ z. f z y) xs) ys (λ y. sum_by-cons (λ z. f z y) x xs),
      sum-add (f x) (λ y. sum_by (λ z. f z y) xs) ys,
    )

module _ {X : Type 0} (p : X → Bool) where
  uncounted_if : (b : Bool) (n k m : ℕ) → cond b 1 0 + k ≡ 0 → (k ≡ 0 → m ≡ 0) → (if b then n else 0) + m ≡ 0
  uncounted_if true n k m e none = absurd (omega arith)
  uncounted_if false n k m e none = let rest = none (omega arith) in omega arith

  -- of those that pass, where none is counted
  pub sum-uncounted : (f : X → ℕ) (xs : List X) → sum_by (λ x. cond (p x) 1 0) xs ≡ 0 → sum_by (λ x. if p x then f x else 0) xs ≡ 0
  sum-uncounted f [] e = refl
  sum-uncounted f (x ∷ xs) e =
      sum_by-cons (λ y. if p y then f y else 0) x xs
      ∙ uncounted_if (p x) (f x) (sum_by (λ y. cond (p y) 1 0) xs) (sum_by (λ y. if p y then f y else 0) xs) (sym (sum_by-cons (λ y. cond (p y) 1 0) x xs) ∙ e) (sum-uncounted f xs)

  -- of those that pass, among those that don't
  pub sum-without : (f : X → ℕ) (xs : List X) → sum_by (λ x. if p x then f x else 0) (filter (λ x. not (p x)) xs) ≡ 0
  sum-without f xs =
      sum-filter (λ x. if p x then f x else 0) (λ x. not (p x)) xs
      ∙ sum-zero (λ x. if not (p x) then (if p x then f x else 0) else 0) xs (λ x. apart_if (not (p x)) (p x) (f x) (fails (p x)))
    where
      fails : (b : Bool) → not b ≡ true → b ≡ false
      fails true e = absurd (cc)
      fails false e = refl

  -- a number for each that passes, of which there is one
  pub sum-once : (n : ℕ) (xs : List X) → sum_by (λ x. cond (p x) 1 0) xs ≡ 1 → sum_by (λ x. if p x then n else 0) xs ≡ n
  sum-once zero xs one = sum-zero (λ x. if p x then 0 else 0) xs (λ x. zero_if (p x) 0 refl)
  sum-once (suc n) xs one =
      omega (
        arith,
        one,
        sum-each (λ x. if p x then suc n else 0) (λ x. cond (p x) 1 0 + (if p x then n else 0)) xs (λ x. one_more_if (p x) n),
        sum-add (λ x. cond (p x) 1 0) (λ x. if p x then n else 0) xs,
        sum-once n xs one,
      )

  -- of those that pass two tests, of which the second one fails where the first one does
  pub sum-narrower : (q : X → Bool) (f : X → ℕ) (xs : List X) → ((x : X) → p x ≡ false → q x ≡ false)
      → sum_by f (filter q (filter p xs)) ≡ sum_by (λ x. if q x then f x else 0) xs
  sum-narrower q f xs fails =
      sum-filter f q (filter p xs) ∙ sum-filter (λ x. if q x then f x else 0) p xs
      ∙ sum-each (λ x. if p x then (if q x then f x else 0) else 0) (λ x. if q x then f x else 0) xs (λ x. narrower_if (p x) (q x) (f x) (fails x))

-- What is found in a list, and how often; names that are one, and names that differ.
use Rattle.std.proofs.Common.{◌≡◌, ℕ, ◌+◌, ◌≤◌, ◌==◌, Bool, true, false, ◌&&◌, ◌||◌, cond, List, [], ◌∷◌, find, All, Contains, sum_by, Option, Some, None, refl, sym, ap, ◌∙◌, arith}
use Rattle.std.specs.List.{list_any}
use Rattle.std.proofs.lemmas.Bool.{and_from, and_parts, eqb-true}
use Rattle.std.proofs.lemmas.List.Elements.{All-contains_itself, All-weaker}
use Rattle.std.proofs.lemmas.List.Sums.{sum_by-cons}
use Rattle.xm_rules.specs.Orders.{is_named}
use Rattle.xm_rules.specs.declared.orders.Order.{Order}
use Rattle.xm_rules.proofs.Sums.{sum-gap}

module _ {X : Type 0} (p : X → Bool) where
  found_if : (b : Bool) (x y : X) (rest : Option X) → p x ≡ b → (rest ≡ Some y → p y ≡ true) → cond b (Some x) rest ≡ Some y → p y ≡ true
  found_if true x y rest e later f = let same : x ≡ y = cc in ap p (sym same) ∙ e
  found_if false x y rest e later f = later f

  -- what is found passes the test
  pub find-passes : (xs : List X) (y : X) → find p xs ≡ Some y → p y ≡ true
  find-passes [] y e = absurd (cc)
  find-passes (x ∷ xs) y e = found_if (p x) x y (find p xs) refl (find-passes xs y) e

  counted_if : (b : Bool) (x y : X) (rest : Option X) (n : ℕ) → (rest ≡ Some y → 1 ≤ n) → cond b (Some x) rest ≡ Some y → 1 ≤ cond b 1 0 + n
  counted_if true x y rest n later f = omega arith
  counted_if false x y rest n later f = let l = later f in omega arith

  -- and is counted
  pub find-counts : (xs : List X) (y : X) → find p xs ≡ Some y → 1 ≤ sum_by (λ x. cond (p x) 1 0) xs
  find-counts [] y e = absurd (cc)
  find-counts (x ∷ xs) y e =
      omega (arith, sum_by-cons (λ z. cond (p z) 1 0) x xs, counted_if (p x) x y (find p xs) (sum_by (λ z. cond (p z) 1 0) xs) (find-counts xs y) e)

  missed_if : (b : Bool) (x : X) (rest : Option X) (any : Bool) → (rest ≡ None → any ≡ false) → cond b (Some x) rest ≡ None → (b || any) ≡ false
  missed_if true x rest any later f = absurd (cc)
  missed_if false x rest any later f = later f

  -- where nothing is found, none passes
  pub find-none : (xs : List X) → find p xs ≡ None → list_any p xs ≡ false
  find-none [] e = refl
  find-none (x ∷ xs) e = missed_if (p x) x (find p xs) (list_any p xs) (find-none xs) e

-- each of a list is counted by a test that each passes of itself
pub each-counted : {X : Type 0} (p : X → X → Bool) → ((x : X) → p x x ≡ true) → (xs : List X) → All (λ x. 1 ≤ sum_by (λ y. cond (p x y) 1 0) xs) xs
each-counted {X} p itself xs =
    All-weaker (Contains xs) (λ x. 1 ≤ sum_by (λ y. cond (p x y) 1 0) xs)
    (λ x at. let more : sum_by (λ y. 0) xs + 1 ≤ sum_by (λ y. cond (p x y) 1 0) xs =
    sum-gap (λ y. 0) (λ y. cond (p x y) 1 0) 1 (λ y. omega arith) xs x (counts (p x x) (itself x)) at.0 at.1 at.2 in omega arith) xs (All-contains_itself xs)
  where
    counts : (b : Bool) → b ≡ true → 0 + 1 ≤ cond b 1 0
    counts true e = omega arith
    counts false e = absurd (cc)

-- ---- names

-- an order has its own name
pub named-itself : (o : Order) → is_named o.member o.reference o ≡ true
named-itself o = and_from (o.member == o.member) (o.reference == o.reference) (itself o.member) (itself o.reference) where
  itself : (n : ℕ) → (n == n) ≡ true
  itself n = grind arith

-- an order of a name has that member and reference
pub names_are : (member reference : ℕ) (o : Order) → is_named member reference o ≡ true → (o.member ≡ member) × (o.reference ≡ reference)
names_are member reference o e =
    let parts = and_parts (o.member == member) (o.reference == reference) e in
    (eqb-true o.member member parts.0, eqb-true o.reference reference parts.1)

-- names that can't be one differ
pub names-apart : (a b c d : ℕ) → (a ≡ c → b ≡ d → ⊥) → ((a == c) && (b == d)) ≡ false
names-apart a b c d differ = by ((a == c) && (b == d)) refl where
  by : (t : Bool) → ((a == c) && (b == d)) ≡ t → t ≡ false
  by true e = let parts = and_parts (a == c) (b == d) e in absurd (differ (eqb-true a c parts.0) (eqb-true b d parts.1))
  by false e = refl

-- of three names, where the first two are one and the last two differ, the first one and the last differ
pub other_name : (a b c d e f : ℕ) → ((a == c) && (b == d)) ≡ true → ((c == e) && (d == f)) ≡ false → ((a == e) && (b == f)) ≡ false
other_name a b c d e f same other =
    let parts = and_parts (a == c) (b == d) same in
    (λ k. (eqb-true a c parts.0 k == e) && (eqb-true b d parts.1 k == f)) ∙ other

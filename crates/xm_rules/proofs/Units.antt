-- Units in a row: how many of those up to a number belong to owners of which no two own the same unit.
use Rattle.std.proofs.Common.{◌≡◌, ℕ, ◌+◌, ◌-◌, ◌≤◌, zero, suc, min, Bool, true, false, ◌&&◌, if◌then◌else◌, List, [], ◌∷◌, All, sum_by, refl, ap, ◌∙◌, ◌⊎◌, arith}
use Rattle.std.specs.Prelude.{nat_le, nat_lt}
use Rattle.std.proofs.lemmas.Bool.Decides.{nat_tests}
use Rattle.std.proofs.lemmas.List.Sums.{sum_by-cons}
use Rattle.xm_rules.proofs.Sums.{sum-add, sum-same, sum-zero}

-- an owner with a first unit and a number of units owns so many of those before a unit
abbrev pub owned_of : ℕ → ℕ → ℕ → ℕ
owned_of first count unit = min count (unit - first)

-- and the unit itself, or not
abbrev pub owns : ℕ → ℕ → ℕ → Bool
owns first count unit = nat_le first unit && nat_lt unit (first + count)

owned_more : (first count unit : ℕ) → owned_of first count (suc unit) ≡ owned_of first count unit + (if owns first count unit then 1 else 0)
owned_more first count unit = grind (arith, nat_tests)

abbrev pub ApartFrom : {X : Type 0} → (X → ℕ) → (X → ℕ) → X → List X → Type 0
ApartFrom first count x [] = Unit {0}
ApartFrom first count x (y ∷ ys) = ((first x + count x ≤ first y) ⊎ (first y + count y ≤ first x)) × ApartFrom first count x ys

abbrev pub Apart : {X : Type 0} → (X → ℕ) → (X → ℕ) → List X → Type 0
Apart first count [] = Unit {0}
Apart first count (x ∷ xs) = ApartFrom first count x xs × Apart first count xs

not_both : (a b c d unit : ℕ) → (a + b ≤ c) ⊎ (c + d ≤ a) → owns a b unit ≡ true → ◌≡◌ {A = ℕ} (if owns c d unit then 1 else 0) 0
not_both a b c d unit h e = grind (arith, nat_tests)

module _ {X : Type 0} (first count : X → ℕ) where
  abbrev pub owned : ℕ → X → ℕ
  owned unit x = owned_of (first x) (count x) unit

  abbrev owners : ℕ → X → ℕ
  owners unit x = if owns (first x) (count x) unit then 1 else 0

  no_other : (unit : ℕ) (x : X) (xs : List X) → ApartFrom first count x xs → owns (first x) (count x) unit ≡ true → sum_by (owners unit) xs ≡ 0
  no_other unit x [] h e = refl
  no_other unit x (y ∷ ys) h e =
      omega (arith, sum_by-cons (owners unit) y ys, not_both (first x) (count x) (first y) (count y) unit h.0 e, no_other unit x ys h.1 e)

  one_if : (b : Bool) (n : ℕ) → (b ≡ true → n ≡ 0) → n ≤ 1 → (if b then 1 else 0) + n ≤ 1
  one_if true n h l = omega (arith, h refl)
  one_if false n h l = omega arith

  one_owner : (unit : ℕ) (xs : List X) → Apart first count xs → sum_by (owners unit) xs ≤ 1
  one_owner unit [] h = omega arith
  one_owner unit (x ∷ xs) h =
      omega (arith, sum_by-cons (owners unit) x xs, one_if (owns (first x) (count x) unit) (sum_by (owners unit) xs) (no_other unit x xs h.0) (one_owner unit xs h.1))

  sum_more : (unit : ℕ) (xs : List X) → sum_by (owned (suc unit)) xs ≡ sum_by (owned unit) xs + sum_by (owners unit) xs
  sum_more unit xs =
      sum-same (owned (suc unit)) (λ x. owned unit x + owners unit x) xs (λ k d l. owned_more (first _) (count _) unit) ∙ sum-add (owned unit) (owners unit) xs

  -- owners that are apart own no more units than there are
  pub owned_within : (xs : List X) → Apart first count xs → (unit : ℕ) → sum_by (owned unit) xs ≤ unit
  owned_within xs h zero = omega (arith, sum-zero (owned 0) xs (λ x. omega arith))
  owned_within xs h (suc unit) = omega (arith, sum_more unit xs, one_owner unit xs h, owned_within xs h unit)

  owned_grows : (xs : List X) → Apart first count xs → (unit more end : ℕ) → end ≡ unit + more → sum_by (owned end) xs ≤ sum_by (owned unit) xs + more
  owned_grows xs h unit zero end e =
      let same : end ≡ unit = omega arith in
      let sums : sum_by (owned end) xs ≡ sum_by (owned unit) xs = ap (λ (n : ℕ). sum_by (owned n) xs) same in
      omega arith
  owned_grows xs h unit (suc more) end e =
      let same : end ≡ suc (unit + more) = omega arith in
      let sums : sum_by (owned end) xs ≡ sum_by (owned (suc (unit + more))) xs = ap (λ (n : ℕ). sum_by (owned n) xs) same in
      omega (arith, sum_more (unit + more) xs, one_owner (unit + more) xs h, owned_grows xs h unit more (unit + more) refl)

  -- where their units fill a row, they own each unit of it
  pub owned_all : (xs : List X) → Apart first count xs → (total : ℕ) → All (λ x. first x + count x ≤ total) xs → sum_by count xs ≡ total
      → (unit : ℕ) → unit ≤ total → sum_by (owned unit) xs ≡ unit
  owned_all xs h total within e unit l =
      let whole : sum_by (owned total) xs ≡ sum_by count xs = sum-same (owned total) count xs (λ k d m. let w = within k d m in omega arith) in
      let grows : sum_by (owned total) xs ≤ sum_by (owned unit) xs + (total - unit) = owned_grows xs h unit (total - unit) total (omega arith) in
      omega (arith, owned_within xs h unit)

-- Lists in which a number rises strictly.
use Rattle.std.proofs.Common.{◌≡◌, ℕ, suc, ◌<◌, ◌≤◌, Bool, true, false, if◌then◌else◌, List, [], ◌∷◌, length, filter, Contains, refl, sym, ap, subst, ◌⊎◌, inl, inr, arith}
use Rattle.std.specs.List.{All, remove}
use Rattle.std.specs.List.Sorted.{IsNonDecreasingBy, IsPermutation}
use Rattle.std.proofs.lemmas.List.Elements.{All-contains, All-filter}
use Rattle.std.proofs.lemmas.List.Sorted.{Contains-permutation, IsPermutation-cons, IsPermutation-refl, IsPermutation-remove, IsPermutation-trans, length_permutation}
use Rattle.xm_slots.proofs.Members.{Contains-cases, Contains-here, Contains-none, Contains-there}

module _ {X : Type 0} (n : X → ℕ) where
  abbrev pub IsRising : List X → Type 0
  IsRising [] = Unit {0}
  IsRising (x ∷ xs) = All (λ (y : X). n x < n y) xs × IsRising xs

  -- what passes a test still rises
  pub rising-filter : (p : X → Bool) (xs : List X) → IsRising xs → IsRising (filter p xs)
  rising-filter p [] r = tt
  rising-filter p (x ∷ xs) r = rising_if (p x) (rising-filter p xs r.1)
    where
      rising_if : (b : Bool) → IsRising (filter p xs) → IsRising (if b then x ∷ filter p xs else filter p xs)
      rising_if true rest = (All-filter p (λ (y : X). n x < n y) xs r.0, rest)
      rising_if false rest = rest

  -- as many elements as a list that rises has, with each of its own among them, are that list in another order
  pub rearranged : (ts es : List X) → IsRising ts → ((x : X) → Contains ts x → Contains es x) → length es ≡ length ts → IsPermutation es ts
  rearranged [] [] r all len = IsPermutation-refl []
  rearranged [] (e ∷ es) r all len = absurd (omega arith)
  rearranged (t ∷ ts) es r all len =
      let at = all t (Contains-here t ts) in
      let moved : IsPermutation es (t ∷ remove es at.0) = IsPermutation-remove es at.0 t at.1 (sym at.2) in
      let shorter = length_permutation es (t ∷ remove es at.0) moved in
      let rest = rearranged ts (remove es at.0) r.1 (λ x in_ts. still (remove es at.0) x in_ts (Contains-cases t (remove es at.0) x (Contains-permutation es (t ∷ remove es at.0) x moved (all x (Contains-there t ts x in_ts))))) (omega arith) in
      IsPermutation-trans es (t ∷ remove es at.0) (t ∷ ts) moved (IsPermutation-cons t (remove es at.0) ts rest)
    where
      still : (ys : List X) (x : X) → Contains ts x → (t ≡ x) ⊎ Contains ys x → Contains ys x
      still ys x in_ts (inl same) = absurd (let later = All-contains (λ (y : X). n t < n y) ts x r.0 in_ts in let equal = ap n same in omega arith)
      still ys x in_ts (inr there) = there

  up-tail : (z : X) (zs : List X) → IsNonDecreasingBy n (z ∷ zs) → IsNonDecreasingBy n zs
  up-tail z zs up i j d le lt = up (suc i) (suc j) d (omega arith) (omega arith)

  up-head : (z : X) (zs : List X) (x : X) → IsNonDecreasingBy n (z ∷ zs) → Contains zs x → n z ≤ n x
  up-head z zs x up at = let within = at.1 in let first = up 0 (suc at.0) x (omega arith) (omega arith) in let here = ap n at.2 in omega arith

  -- a list that rises stands in its order in each sorted list that has all of its elements
  record Covers (zs ts : List X) : Type 0 where
    shorter : length ts ≤ length zs
    same : length zs ≤ length ts → zs ≡ ts

  none_left : (zs : List X) → length zs ≤ 0 → zs ≡ []
  none_left [] h = refl
  none_left (z ∷ zs) h = absurd (omega arith)

  covers : (zs ts : List X) → IsRising ts → IsNonDecreasingBy n zs → ((x : X) → Contains ts x → Contains zs x) → Covers zs ts
  covers zs [] r up all = record { shorter = omega arith; same = λ h. none_left zs h }
  covers [] (t ∷ ts) r up all = absurd (Contains-none t (all t (Contains-here t ts)))
  covers (z ∷ zs) (t ∷ ts) r up all =
      by_first (λ inner. covers zs ts r.1 (up-tail z zs up) inner) (λ inner. covers zs (t ∷ ts) r (up-tail z zs up) inner) (Contains-cases z zs t (all t (Contains-here t ts)))
    where
      after : (x : X) → Contains ts x → n t < n x
      after x in_ts = All-contains (λ (y : X). n t < n y) ts x r.0 in_ts

      by_first : (((x : X) → Contains ts x → Contains zs x) → Covers zs ts) → (((x : X) → Contains (t ∷ ts) x → Contains zs x) → Covers zs (t ∷ ts)) → (z ≡ t) ⊎ Contains zs t → Covers (z ∷ zs) (t ∷ ts)
      by_first tail whole (inl same) =
          let rest = tail (λ x in_ts. later x in_ts (Contains-cases z zs x (all x (Contains-there t ts x in_ts)))) in
          record { shorter = omega (arith, rest.shorter); same = λ h. (λ i. same i ∷ rest.same (omega (arith, h)) i) }
        where
          later : (x : X) → Contains ts x → (z ≡ x) ⊎ Contains zs x → Contains zs x
          later x in_ts (inl here) = absurd (let a = after x in_ts in let b = ap n here in let c = ap n same in omega arith)
          later x in_ts (inr there) = there
      by_first tail whole (inr t_later) =
          let rest = whole (λ x in_all. later x (Contains-cases t ts x in_all) (Contains-cases z zs x (all x in_all))) in
          record { shorter = omega (arith, rest.shorter); same = λ h. absurd (omega (arith, rest.shorter, h)) }
        where
          later : (x : X) → (t ≡ x) ⊎ Contains ts x → (z ≡ x) ⊎ Contains zs x → Contains zs x
          later x first (inr there) = there
          later x (inl is_t) (inl here) = subst (λ (y : X). Contains zs y) is_t t_later
          later x (inr in_ts) (inl here) = absurd (let a = after x in_ts in let b = ap n here in let c = up-head z zs t up t_later in omega arith)

  -- sorted, they are the list that rises
  pub sorted-same : (zs ts : List X) → IsRising ts → IsNonDecreasingBy n zs → ((x : X) → Contains ts x → Contains zs x) → length zs ≡ length ts → zs ≡ ts
  sorted-same zs ts r up all len = (covers zs ts r up all).same (omega arith)

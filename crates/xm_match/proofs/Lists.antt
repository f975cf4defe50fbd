-- Tests that all of a list pass, and that one passes.
use Rattle.std.proofs.Common.{◌≡◌, Bool, true, false, ◌||◌, List, [], ◌∷◌, Contains, refl, ap, subst, ◌∙◌, ◌⊎◌, inl, inr}
use Rattle.std.specs.List.{list_all, list_any}
use Rattle.std.proofs.lemmas.Bool.{and_from, and_parts}
use Rattle.xm_slots.proofs.Members.{Contains-cases, Contains-here, Contains-none, Contains-there}

or_second : (b c : Bool) → c ≡ true → (b || c) ≡ true
or_second true c e = refl
or_second false c e = e

module _ {X : Type 0} (p : X → Bool) where
  passes_by : (x : X) (xs : List X) (y : X) → p x ≡ true → (Contains xs y → p y ≡ true) → (x ≡ y) ⊎ Contains xs y → p y ≡ true
  passes_by x xs y e rest (inl same) = subst (λ (z : X). p z ≡ true) same e
  passes_by x xs y e rest (inr at) = rest at

  pub all_pass : (xs : List X) (y : X) → list_all p xs ≡ true → Contains xs y → p y ≡ true
  all_pass [] y h at = absurd (Contains-none y at)
  all_pass (x ∷ xs) y h at = let parts = and_parts (p x) (list_all p xs) h in passes_by x xs y parts.0 (all_pass xs y parts.1) (Contains-cases x xs y at)

  pub all_of_each : (xs : List X) → ((y : X) → Contains xs y → p y ≡ true) → list_all p xs ≡ true
  all_of_each [] h = refl
  all_of_each (x ∷ xs) h = and_from (p x) (list_all p xs) (h x (Contains-here x xs)) (all_of_each xs (λ y at. h y (Contains-there x xs y at)))

  any_by : (x : X) (xs : List X) (y : X) → p y ≡ true → (Contains xs y → list_any p xs ≡ true) → (x ≡ y) ⊎ Contains xs y → list_any p (x ∷ xs) ≡ true
  any_by x xs y e rest (inl same) = ap (λ (b : Bool). b || list_any p xs) (ap p same ∙ e)
  any_by x xs y e rest (inr at) = or_second (p x) (list_any p xs) (rest at)

  pub any_of_one : (xs : List X) (y : X) → p y ≡ true → Contains xs y → list_any p xs ≡ true
  any_of_one [] y e at = absurd (Contains-none y at)
  any_of_one (x ∷ xs) y e at = any_by x xs y e (any_of_one xs y e) (Contains-cases x xs y at)

-- The shares of the rows of a round.
use Rattle.std.proofs.Common.{◌≡◌, Bool, true, false, ◌&&◌, List, [], ◌∷◌, refl, ap}
use Rattle.std.specs.List.{filter, list_all}

-- where each passes, all are left
filter-next : {X : Type 0} (p : X → Bool) (x : X) (xs : List X) (b : Bool) → p x ≡ b → (list_all p xs ≡ true → filter p xs ≡ xs) → (b && list_all p xs) ≡ true → filter p (x ∷ xs) ≡ x ∷ xs
filter-next p x xs true is rest all = rw is (ap (λ ys. x ∷ ys) (rest all))
filter-next p x xs false is rest all = absurd (cc)

pub filter-all : {X : Type 0} (p : X → Bool) (xs : List X) → list_all p xs ≡ true → filter p xs ≡ xs
filter-all p [] all = refl
filter-all p (x ∷ xs) all = filter-next p x xs (p x) refl (filter-all p xs) all

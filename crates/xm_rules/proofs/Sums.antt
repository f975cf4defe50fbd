-- Sums over lists.
use Rattle.std.proofs.Common.{◌≡◌, ℕ, ◌+◌, ◌<◌, ◌≤◌, zero, suc, List, [], ◌∷◌, length, get_or, All, sum_by, refl, sym, subst, arith}
use Rattle.std.proofs.lemmas.List.Elements.{All-head, All-tail}
use Rattle.std.proofs.lemmas.List.Sums.{sum_by-cons, sum_by-le-sum_by}

pub sum-add : {X : Type 0} (f g : X → ℕ) (xs : List X) → sum_by (λ x. f x + g x) xs ≡ sum_by f xs + sum_by g xs
sum-add f g [] = refl
sum-add f g (x ∷ xs) = omega (arith, sum_by-cons (λ y. f y + g y) x xs, sum_by-cons f x xs, sum_by-cons g x xs, sum-add f g xs)

pub sum-same : {X : Type 0} (f g : X → ℕ) (xs : List X) → All (λ x. f x ≡ g x) xs → sum_by f xs ≡ sum_by g xs
sum-same f g [] h = refl
sum-same f g (x ∷ xs) h =
    omega (arith, sum_by-cons f x xs, sum_by-cons g x xs, All-head (λ y. f y ≡ g y) x xs h, sum-same f g xs (All-tail (λ y. f y ≡ g y) x xs h))

pub sum-each : {X : Type 0} (f g : X → ℕ) (xs : List X) → ((x : X) → f x ≡ g x) → sum_by f xs ≡ sum_by g xs
sum-each f g [] h = refl
sum-each f g (x ∷ xs) h = omega (arith, sum_by-cons f x xs, sum_by-cons g x xs, h x, sum-each f g xs h)

pub sum-le : {X : Type 0} (f g : X → ℕ) (xs : List X) → All (λ x. f x ≤ g x) xs → sum_by f xs ≤ sum_by g xs
sum-le f g [] h = omega arith
sum-le f g (x ∷ xs) h =
    omega (arith, sum_by-cons f x xs, sum_by-cons g x xs, All-head (λ y. f y ≤ g y) x xs h, sum-le f g xs (All-tail (λ y. f y ≤ g y) x xs h))

pub sum-zero : {X : Type 0} (f : X → ℕ) (xs : List X) → ((x : X) → f x ≡ 0) → sum_by f xs ≡ 0
sum-zero f [] h = refl
sum-zero f (x ∷ xs) h = omega (arith, sum_by-cons f x xs, h x, sum-zero f xs h)

-- a sum of larger terms, of which one is larger by so much
pub sum-gap : {X : Type 0} (f g : X → ℕ) (more : ℕ) → ((y : X) → f y ≤ g y) → (xs : List X) (x : X) → f x + more ≤ g x → (k : ℕ) → k < length xs → get_or xs k x ≡ x
    → sum_by f xs + more ≤ sum_by g xs
sum-gap f g more le [] x here k l e = absurd (omega arith)
sum-gap f g more le (y ∷ ys) x here zero l e =
    let at : f y + more ≤ g y = subst (λ z. f z + more ≤ g z) (sym e) here in
    omega (arith, sum_by-cons f y ys, sum_by-cons g y ys, sum_by-le-sum_by f g ys le)
sum-gap f g more le (y ∷ ys) x here (suc k) l e =
    omega (arith, sum_by-cons f y ys, sum_by-cons g y ys, le y, sum-gap f g more le ys x here k (omega arith) e)

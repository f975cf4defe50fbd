-- What stands at a place of a list.
use Rattle.std.proofs.Common.{◌≡◌, ◌≢◌, ℕ, zero, suc, ◌<◌, List, [], ◌∷◌, length, set, slice_get, Some, refl, sym, ap, arith, ◌∙◌}

pub some-at : {A : Type 0} (xs : List A) (i : ℕ) → i < length xs → (x : A) × (slice_get xs i ≡ Some x)
some-at [] i within = absurd (omega arith)
some-at (x ∷ xs) zero within = (x, refl)
some-at (x ∷ xs) (suc i) within = some-at xs i (omega arith)

pub within-length : {A : Type 0} (xs : List A) (i : ℕ) (x : A) → slice_get xs i ≡ Some x → i < length xs
within-length [] i x at = absurd (cc)
within-length (y ∷ ys) zero x at = omega arith
within-length (y ∷ ys) (suc i) x at = omega (arith, within-length ys i x at)

pub same-at : {A : Type 0} (xs : List A) (i : ℕ) (x y : A) → slice_get xs i ≡ Some x → slice_get xs i ≡ Some y → x ≡ y
same-at xs i x y at and = let both : Some x ≡ Some y = sym at ∙ and in cc

pub set-here : {A : Type 0} (xs : List A) (i : ℕ) (y x : A) → slice_get (set xs i y) i ≡ Some x → y ≡ x
set-here [] i y x at = absurd (cc)
set-here (z ∷ xs) zero y x at = cc
set-here (z ∷ xs) (suc i) y x at = set-here xs i y x at

pub set-there : {A : Type 0} (xs : List A) (i k : ℕ) (y : A) → k ≢ i → slice_get (set xs i y) k ≡ slice_get xs k
set-there [] i k y other = refl
set-there (z ∷ xs) zero zero y other = absurd (other refl)
set-there (z ∷ xs) zero (suc k) y other = refl
set-there (z ∷ xs) (suc i) zero y other = refl
set-there (z ∷ xs) (suc i) (suc k) y other = set-there xs i k y (λ same. other (ap suc same))

-- A walk from the last event to the first.
use Rattle.std.proofs.Common.{◌≡◌, ℕ, ◌+◌, ◌<◌, ◌≤◌, suc, zero, List, [], ◌∷◌, ◌++◌, length, get_or, take, drop, sum_by, slice_set, refl, sym, ap, ◌∙◌, arith}
use Rattle.std.proofs.Math.Seq.{drop-cons}
use Rattle.std.proofs.lemmas.List.{take-append-drop}
use Rattle.std.proofs.lemmas.List.Sums.{sum_by-append, sum_by-cons}
use Rattle.xm_events.specs.Life.{with_rest_before, with_rests}
use Rattle.xm_events.specs.declared.events.Event.{Event}

set_here : (xs ws : List Event) (i : ℕ) (w : Event) → i < length xs → slice_set (take (suc i) xs ++ ws) i w ≡ take i xs ++ w ∷ ws
set_here [] ws i w l = absurd (omega (arith, l))
set_here (x ∷ xs) ws zero w l = refl
set_here (x ∷ xs) ws (suc i) w l = ap (λ (ys : List Event). x ∷ ys) (set_here xs ws i w (omega (arith, l)))

get_here : (xs ws : List Event) (i : ℕ) (d : Event) → i < length xs → get_or (take (suc i) xs ++ ws) i d ≡ get_or xs i d
get_here [] ws i d l = absurd (omega (arith, l))
get_here (x ∷ xs) ws zero d l = refl
get_here (x ∷ xs) ws (suc i) d l = get_here xs ws i d (omega (arith, l))

-- what events take behind a place is no more than what all take
pub behind_le : (f : Event → ℕ) (xs : List Event) (i : ℕ) → sum_by f (drop i xs) ≤ sum_by f xs
behind_le f xs i =
    let whole = ap (sum_by f) (take-append-drop i xs) in
    let parts = sum_by-append f (take i xs) (drop i xs) in
    omega (arith, whole, parts)

-- what is said of a place, by the number of the one behind it
pub told_at : (left : ℕ → ℕ → ℕ) (xs es : List Event) (n i : ℕ) → n ≡ suc i → es ≡ take n xs ++ with_rests left (drop n xs) → es ≡ take (suc i) xs ++ with_rests left (drop (suc i) xs)
told_at left xs es n i same told = told ∙ (λ k. take (same k) xs ++ with_rests left (drop (same k) xs))

pub summed_at : (f : Event → ℕ) (xs : List Event) (sum n i : ℕ) → n ≡ suc i → sum ≡ sum_by f (drop n xs) → sum ≡ sum_by f (drop (suc i) xs)
summed_at f xs sum n i same summed = summed ∙ (λ k. sum_by f (drop (same k) xs))

-- events of which those behind a place have their rests, and the event at it
module _ (left : ℕ → ℕ → ℕ) (xs es : List Event) (i : ℕ) (e : Event) (told : es ≡ take (suc i) xs ++ with_rests left (drop (suc i) xs)) (within : i < length xs)
    (here : e ≡ get_or es i e) where
  pub drop_here : drop i xs ≡ e ∷ drop (suc i) xs
  drop_here =
      let its : e ≡ get_or xs i e = here ∙ ap (λ (l : List Event). get_or l i e) told ∙ get_here xs (with_rests left (drop (suc i) xs)) i e within in
      drop-cons xs i e within ∙ ap (λ (x : Event). x ∷ drop (suc i) xs) (sym its)

  pub sum_here : (f : Event → ℕ) → sum_by f (drop i xs) ≡ f e + sum_by f (drop (suc i) xs)
  sum_here f = ap (sum_by f) drop_here ∙ sum_by-cons f e (drop (suc i) xs)

  pub set_told : (w : Event) → w ≡ with_rest_before left e (drop (suc i) xs) → slice_set es i w ≡ take i xs ++ with_rests left (drop i xs)
  set_told w is =
      let ws = with_rests left (drop (suc i) xs) in
      ap (λ (l : List Event). slice_set l i w) told ∙ set_here xs ws i w within ∙ ap (λ (x : Event). take i xs ++ x ∷ ws) is
      ∙ ap (λ (l : List Event). take i xs ++ with_rests left l) (sym drop_here)

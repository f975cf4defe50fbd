-- What a change leaves of the reserved places.
use Rattle.std.proofs.Common.{◌≡◌, ◌≤◌, ℕ, ◌+◌, Bool, true, false, ◌||◌, if◌then◌else◌, List, [], ◌∷◌, length, count_by, refl, sym, ap, ◌∙◌, arith}
use Rattle.std.specs.List.{list_any}
use Rattle.std.specs.declared.snapshot.Snapshot.{Snapshot}
use Rattle.std.proofs.lemmas.List.Sums.{count_by-le-length, sum_by-cons}
use Rattle.xm_book.specs.Places.{SamePlaces, same_place}
use Rattle.xm_book.specs.Reserved.{Gains, after, held, without_one}
use Rattle.xm_book.specs.declared.places.PlaceChange.{PlaceChange, fold-PlaceChange, fold-roll-PlaceChange}
use Rattle.xm_book.specs.declared.places.PlaceChange.TheOpen as open'
use Rattle.xm_book.specs.declared.places.PlaceChange.TheVariants.{Nothing, Reserved, Released, rolls-Nothing, rolls-Reserved, rolls-Released}
use Rattle.xm_book.specs.declared.places.Place.{Place}
use Rattle.xm_book.proofs.Sameness.{same_place-is}

pub held-nothing : held Nothing ≡ []
unfolding held
held-nothing = ap (fold-PlaceChange (List Place) after) (sym rolls-Nothing) ∙ fold-roll-PlaceChange (List Place) after open'.Nothing

pub held-reserved : (place : Snapshot Place) (before : Snapshot PlaceChange) → held (Reserved place before) ≡ place.value ∷ held before.value
unfolding held
held-reserved place before = ap (fold-PlaceChange (List Place) after) (sym (rolls-Reserved place before)) ∙ fold-roll-PlaceChange (List Place) after (open'.Reserved place before)

pub held-released : (place : Snapshot Place) (before : Snapshot PlaceChange) → held (Released place before) ≡ without_one place.value (held before.value)
unfolding held
held-released place before = ap (fold-PlaceChange (List Place) after) (sym (rolls-Released place before)) ∙ fold-roll-PlaceChange (List Place) after (open'.Released place before)

-- where the snapshots show a place and what was before
pub held-more : (shown : Snapshot Place) (before : Snapshot PlaceChange) (place : Place) (change : PlaceChange) → shown.value ≡ place → before.value ≡ change → held (Reserved shown before) ≡ place ∷ held change
held-more shown before place change e f = held-reserved shown before ∙ (λ i. e i ∷ held (f i))

pub held-less : (shown : Snapshot Place) (before : Snapshot PlaceChange) (place : Place) (change : PlaceChange) → shown.value ≡ place → before.value ≡ change
    → held (Released shown before) ≡ without_one place (held change)
held-less shown before place change e f = held-released shown before ∙ (λ i. without_one (e i) (held (f i)))

-- how many of one place pass
abbrev pub weight : (Place → Bool) → Place × ℕ → ℕ
weight f e = if f e.0 then e.1 else 0

pub count_one : (f : Place → Bool) (p : Place) (ps : List Place) → count_by f (p ∷ ps) ≡ weight f (p, 1) + count_by f ps
count_one f p ps = sum_by-cons (λ q. if f q then 1 else 0) p ps

count-all : (ps : List Place) → count_by (λ q. true) ps ≡ length ps
count-all [] = refl
count-all (p ∷ ps) = omega (arith, count_one (λ q. true) p ps, count-all ps)

pub Gains-length : (p : Place) (ps qs : List Place) → Gains p ps qs → length qs ≡ length ps + 1
Gains-length p ps qs h = omega (arith, h.counts (λ q. true), count-all ps, count-all qs, count_one (λ q. true) p ps)

pub Gains-same : (p : Place) (ps qs : List Place) → Gains p ps qs → SamePlaces qs (p ∷ ps)
Gains-same p ps qs h = record { length = omega (arith, Gains-length p ps qs h); counts = λ q. h.counts (same_place q) }

-- one that is there is left out
count-left : (p q : Place) (qs : List Place) (b : Bool) → same_place p q ≡ b → (f : Place → Bool) → (list_any (same_place p) qs ≡ true → count_by f qs ≡ weight f (p, 1) + count_by f (without_one p qs))
    → (b || list_any (same_place p) qs) ≡ true → count_by f (q ∷ qs) ≡ weight f (p, 1) + count_by f (if b then qs else q ∷ without_one p qs)
count-left p q qs true e f rest h = count_one f q qs ∙ ap (λ (x : Place). weight f (x, 1) + count_by f qs) (sym (same_place-is p q e))
count-left p q qs false e f rest h = omega (arith, count_one f q qs, count_one f q (without_one p qs), rest h)

counted : (p : Place) (qs : List Place) (f : Place → Bool) → list_any (same_place p) qs ≡ true → count_by f qs ≡ weight f (p, 1) + count_by f (without_one p qs)
counted p [] f h = absurd (cc)
counted p (q ∷ qs) f h = count-left p q qs (same_place p q) refl f (counted p qs f) h

pub Gains-left : (p : Place) (qs : List Place) → list_any (same_place p) qs ≡ true → Gains p (without_one p qs) qs
Gains-left p qs h = record { counts = λ f. counted p qs f h ∙ sym (count_one f p (without_one p qs)) }

pub counted-within : (f : Place → Bool) (ps : List Place) → count_by f ps ≤ length ps
counted-within f ps = count_by-le-length f ps

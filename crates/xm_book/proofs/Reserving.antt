-- What a list of reserved places holds after one is reserved or used.
use Rattle.std.proofs.Common.{◌≡◌, ℕ, ◌+◌, ◌<◌, Bool, true, false, ◌||◌, cond, List, [], ◌∷◌, refl, arith}
use Rattle.std.specs.Prelude.{nat_eq}
use Rattle.std.specs.List.{list_any, count_by}
use Rattle.std.proofs.lemmas.List.Sums.{sum_by-cons}
use Rattle.std.proofs.lemmas.Bool.Decides.{nat_tests}
use Rattle.xm_book.specs.Places.{SamePlaces, same_place}
use Rattle.xm_book.specs.declared.places.Place.{Place}
use Rattle.xm_book.proofs.Joining.{restriction-itself}
use Rattle.xm_rules.specs.Orders.{same_kind}
use Rattle.xm_rules.specs.Sides.{same_side}
use Rattle.xm_rules.specs.declared.orders.OrderKind.{OrderKind}
use Rattle.xm_rules.specs.declared.orders.OrderKind.TheVariants.{Market, Limit}
use Rattle.xm_rules.specs.declared.orders.Side.{Side}
use Rattle.xm_rules.specs.declared.orders.Side.TheVariants.{Buy, Sell}

same_number : (n : ℕ) → nat_eq n n ≡ true
same_number n = grind (arith, nat_tests)

same_side-self : (side : Side) → same_side side side ≡ true
same_side-self Buy = refl
same_side-self Sell = refl

same_kind-self : (kind : OrderKind) → same_kind kind kind ≡ true
same_kind-self Market = refl
same_kind-self (Limit p) = same_number p

pub same_place-self : (p : Place) → same_place p p ≡ true
same_place-self p = rw (same_side-self p.side, same_kind-self p.kind, restriction-itself p.restriction, same_number p.member, same_number p.reference) refl

-- a count of a list with one more
pub counted-cons : (f : Place → Bool) (p : Place) (ps : List Place) → count_by f (p ∷ ps) ≡ cond (f p) 1 0 + count_by f ps
counted-cons f p ps = sum_by-cons (λ (q : Place). cond (f q) 1 0) p ps

there_if : (b : Bool) (n : ℕ) (more : Bool) → (0 < n → more ≡ true) → 0 < cond b 1 0 + n → (b || more) ≡ true
there_if true n more later h = refl
there_if false n more later h = later (omega arith)

-- what is counted is there
pub any-counted : (f : Place → Bool) (ps : List Place) → 0 < count_by f ps → list_any f ps ≡ true
any-counted f [] h = absurd (omega arith)
any-counted f (p ∷ ps) h =
    let counted = counted-cons f p ps in
    there_if (f p) (count_by f ps) (list_any f ps) (any-counted f ps) (omega arith)

-- a place that was reserved is there
pub reserved-there : (p : Place) (old new : List Place) → SamePlaces new (p ∷ old) → list_any (same_place p) new ≡ true
reserved-there p old new same =
    let one : ℕ = 1 in
    let here : cond (same_place p p) 1 0 ≡ one = rw (same_place-self p) refl in
    any-counted (same_place p) new (omega (arith, same.counts p, counted-cons (same_place p) p old, here))

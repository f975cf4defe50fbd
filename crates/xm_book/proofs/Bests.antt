-- The best of some prices is the one of them that reaches all.
use Rattle.std.proofs.Common.{◌≡◌, ℕ, Bool, true, false, if◌then◌else◌, List, [], ◌∷◌, Contains, Option, Some, None, refl, ap, subst, ◌⊎◌, inl, inr, arith}
use Rattle.std.specs.Prelude.{nat_le}
use Rattle.std.proofs.lemmas.Bool.Decides.{nat_tests}
use Rattle.xm_slots.proofs.Members.{Contains-cases, Contains-here, Contains-none, Contains-there}
use Rattle.xm_rules.specs.Sides.{best, best_from, better, reaches}
use Rattle.xm_rules.specs.declared.orders.Side.{Side}
use Rattle.xm_rules.specs.declared.orders.Side.TheVariants.{Buy, Sell}

le_same : (p : ℕ) → nat_le p p ≡ true
le_same p = grind (arith, nat_tests)

le_on : (p q r : ℕ) → nat_le p q ≡ true → nat_le q r ≡ true → nat_le p r ≡ true
le_on p q r h i = grind (arith, nat_tests)

le_other : (p q : ℕ) → nat_le p q ≡ false → nat_le q p ≡ true
le_other p q h = grind (arith, nat_tests)

le_once : (p q : ℕ) → nat_le p q ≡ true → nat_le q p ≡ true → p ≡ q
le_once p q h i = grind (arith, nat_tests)

pub reaches-itself : (side : Side) (p : ℕ) → reaches side p p ≡ true
reaches-itself Buy p = le_same p
reaches-itself Sell p = le_same p

pub reaches-on : (side : Side) (p q r : ℕ) → reaches side p q ≡ true → reaches side q r ≡ true → reaches side p r ≡ true
reaches-on Buy p q r h i = le_on r q p i h
reaches-on Sell p q r h i = le_on p q r h i

pub reaches-other : (side : Side) (p q : ℕ) → reaches side p q ≡ false → reaches side q p ≡ true
reaches-other Buy p q h = le_other q p h
reaches-other Sell p q h = le_other p q h

pub reaches-once : (side : Side) (p q : ℕ) → reaches side p q ≡ true → reaches side q p ≡ true → p ≡ q
reaches-once Buy p q h i = le_once p q i h
reaches-once Sell p q h i = le_once p q h i

-- one of a list that reaches each of it
pub record IsBest (side : Side) (ps : List ℕ) (p : ℕ) : Type 0 where
  pub there : Contains ps p
  pub reaches_all : (x : ℕ) → Contains ps x → reaches side p x ≡ true

of_two : (side : Side) (p q : ℕ) (qs : List ℕ) (x : ℕ) (b : Bool) → reaches side p q ≡ b → IsBest side ((if b then p else q) ∷ qs) x → IsBest side (p ∷ q ∷ qs) x
of_two side p q qs x true e h = record {
  there = lift_first p q qs x (Contains-cases p qs x h.there);
  reaches_all = λ y at. first side p q qs x h e y (Contains-cases p (q ∷ qs) y at);
} where
  lift_first : (p q : ℕ) (qs : List ℕ) (x : ℕ) → (p ≡ x) ⊎ Contains qs x → Contains (p ∷ q ∷ qs) x
  lift_first p q qs x (inl same) = subst (λ (y : ℕ). Contains (p ∷ q ∷ qs) y) same (Contains-here p (q ∷ qs))
  lift_first p q qs x (inr later) = Contains-there p (q ∷ qs) x (Contains-there q qs x later)

  second : (side : Side) (p q : ℕ) (qs : List ℕ) (x : ℕ) → IsBest side (p ∷ qs) x → reaches side p q ≡ true → (y : ℕ) → (q ≡ y) ⊎ Contains qs y → reaches side x y ≡ true
  second side p q qs x h e y (inl same) = subst (λ (z : ℕ). reaches side x z ≡ true) same (reaches-on side x p q (h.reaches_all p (Contains-here p qs)) e)
  second side p q qs x h e y (inr later) = h.reaches_all y (Contains-there p qs y later)

  first : (side : Side) (p q : ℕ) (qs : List ℕ) (x : ℕ) → IsBest side (p ∷ qs) x → reaches side p q ≡ true → (y : ℕ) → (p ≡ y) ⊎ Contains (q ∷ qs) y → reaches side x y ≡ true
  first side p q qs x h e y (inl same) = subst (λ (z : ℕ). reaches side x z ≡ true) same (h.reaches_all p (Contains-here p qs))
  first side p q qs x h e y (inr later) = second side p q qs x h e y (Contains-cases q qs y later)
of_two side p q qs x false e h = record {
  there = Contains-there p (q ∷ qs) x h.there;
  reaches_all = λ y at. first side p q qs x h e y (Contains-cases p (q ∷ qs) y at);
} where
  first : (side : Side) (p q : ℕ) (qs : List ℕ) (x : ℕ) → IsBest side (q ∷ qs) x → reaches side p q ≡ false → (y : ℕ) → (p ≡ y) ⊎ Contains (q ∷ qs) y → reaches side x y ≡ true
  first side p q qs x h e y (inl same) =
      subst (λ (z : ℕ). reaches side x z ≡ true) same (reaches-on side x q p (h.reaches_all q (Contains-here q qs)) (reaches-other side p q e))
  first side p q qs x h e y (inr later) = h.reaches_all y later

alone : (side : Side) (p y : ℕ) → (p ≡ y) ⊎ Contains [] y → reaches side p y ≡ true
alone side p y (inl same) = subst (λ (z : ℕ). reaches side p z ≡ true) same (reaches-itself side p)
alone side p y (inr later) = absurd (Contains-none y later)

from-is_best : (side : Side) (p : ℕ) (qs : List ℕ) → IsBest side (p ∷ qs) (best_from side p qs)
from-is_best side p [] = record { there = Contains-here p []; reaches_all = λ y at. alone side p y (Contains-cases p [] y at) }
from-is_best side p (q ∷ qs) =
    of_two side p q qs (best_from side (better side p q) qs) (reaches side p q) refl (from-is_best side (better side p q) qs)

-- what the best of a list says
abbrev pub Bests : Side → List ℕ → Option ℕ → Type 0
Bests side ps None = (x : ℕ) → Contains ps x → ⊥
Bests side ps (Some p) = IsBest side ps p

bests : (side : Side) (ps : List ℕ) → Bests side ps (best side ps)
bests side [] = λ x at. Contains-none x at
bests side (p ∷ ps) = from-is_best side p ps

pub best-says : (side : Side) (ps : List ℕ) (o : Option ℕ) → best side ps ≡ o → Bests side ps o
best-says side ps o e = subst (Bests side ps) e (bests side ps)

same_best : (side : Side) (ps : List ℕ) (p : ℕ) (o : Option ℕ) → Bests side ps o → IsBest side ps p → o ≡ Some p
same_best side ps p None none h = absurd (none p h.there)
same_best side ps p (Some q) i h = ap (λ (x : ℕ). Some x) (reaches-once side q p (i.reaches_all p h.there) (h.reaches_all q i.there))

pub best-is : (side : Side) (ps : List ℕ) (p : ℕ) → IsBest side ps p → best side ps ≡ Some p
best-is side ps p h = same_best side ps p (best side ps) (bests side ps) h

pub best-none : (side : Side) (ps : List ℕ) → ((x : ℕ) → Contains ps x → ⊥) → best side ps ≡ None
best-none side [] none = refl
best-none side (q ∷ qs) none = absurd (none q (Contains-here q qs))

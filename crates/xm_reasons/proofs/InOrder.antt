-- Prices, each once, the best of a side first: such a list is determined by its members.
use Rattle.std.proofs.Common.{◌≡◌, ℕ, ◌==◌, Bool, true, false, if◌then◌else◌, List, [], ◌∷◌, Contains, arith, refl, sym, subst, ◌⊎◌, inl, inr}
use Rattle.std.proofs.lemmas.Bool.{and_from, both_ways, eq-eqb, eqb-true, false_from_ne_true}
use Rattle.xm_book.proofs.Bests.{reaches-itself, reaches-on, reaches-once, reaches-other}
use Rattle.std.proofs.lemmas.Bool.Decides.{nat_tests}
use Rattle.std.specs.Prelude.{nat_le, nat_lt}
use Rattle.xm_rules.specs.declared.orders.Side.TheVariants.{Buy}
use Rattle.xm_reasons.specs.Candidates.{best_first, is_falling, put_in_order}
use Rattle.xm_rules.specs.Sides.{reaches}
use Rattle.xm_rules.specs.declared.orders.Side.{Side}
use Rattle.xm_slots.proofs.Members.{Contains-cases, Contains-here, Contains-none, Contains-there}

-- what one list has, another has
abbrev pub Within : List ℕ → List ℕ → Type 0
Within xs ys = (y : ℕ) → Contains xs y → Contains ys y

pub record SameMembers (xs ys : List ℕ) : Type 0 where
  pub to : Within xs ys
  pub from : Within ys xs

-- each of these is worse than a price
abbrev pub Behind : Side → ℕ → List ℕ → Type 0
Behind side p qs = (q : ℕ) → Contains qs q → reaches side q p ≡ false

abbrev pub Falls : Side → List ℕ → Type 0
Falls side [] = Unit {0}
Falls side (p ∷ ps) = Behind side p ps × Falls side ps

-- a list with one more has what the list has, and the one
within_more : (p : ℕ) (xs ys : List ℕ) → Contains ys p → Within xs ys → Within (p ∷ xs) ys
within_more p xs ys at w y in_y = of (Contains-cases p xs y in_y) where
  of : (p ≡ y) ⊎ Contains xs y → Contains ys y
  of (inl same) = subst (λ (z : ℕ). Contains ys z) same at
  of (inr later) = w y later

within_later : (q : ℕ) (xs ys : List ℕ) → Within xs ys → Within (q ∷ xs) (q ∷ ys)
within_later q xs ys w = within_more q xs (q ∷ ys) (Contains-here q ys) (λ y at. Contains-there q ys y (w y at))

-- ---- a price joins
behind_more : (side : Side) (p q : ℕ) (qs : List ℕ) → reaches side q p ≡ false → Behind side p qs → Behind side p (q ∷ qs)
behind_more side p q qs r b y at = of (Contains-cases q qs y at) where
  of : (q ≡ y) ⊎ Contains qs y → reaches side y p ≡ false
  of (inl same) = subst (λ (z : ℕ). reaches side z p ≡ false) same r
  of (inr later) = b y later

behind_on : (side : Side) (p q : ℕ) (qs : List ℕ) → reaches side p q ≡ true → Behind side q qs → Behind side p qs
behind_on side p q qs r b y at = false_from_ne_true (reaches side y p) (λ e. both_ways (reaches side y q) (b y at) (reaches-on side y p q e r))

pub record IsJoined (side : Side) (p : ℕ) (qs rs : List ℕ) : Type 0 where
  pub falls : Falls side rs
  pub to : Within (p ∷ qs) rs
  pub from : Within rs (p ∷ qs)

is_first : (side : Side) (p q : ℕ) (qs : List ℕ) → Falls side (q ∷ qs) → (p ≡ q → ⊥) → reaches side p q ≡ true → IsJoined side p (q ∷ qs) (p ∷ q ∷ qs)
is_first side p q qs f other r =
    let apart : reaches side q p ≡ false = false_from_ne_true (reaches side q p) (λ e. other (reaches-once side p q r e)) in
    record { falls = (behind_more side p q qs apart (behind_on side p q qs r f.0), f); to = λ y at. at; from = λ y at. at }

is_later : (side : Side) (p q : ℕ) (qs rs : List ℕ) → Behind side q qs → reaches side p q ≡ false → IsJoined side p qs rs → IsJoined side p (q ∷ qs) (q ∷ rs)
is_later side p q qs rs b r j = record {
  falls = (λ y at. behind_more side q p qs r b y (j.from y at), j.falls);
  to = within_more p (q ∷ qs) (q ∷ rs) (Contains-there q rs p (j.to p (Contains-here p qs))) (within_later q qs rs (λ y at. j.to y (Contains-there p qs y at)));
  from = within_more q rs (p ∷ q ∷ qs) (Contains-there p (q ∷ qs) q (Contains-here q qs))
      (λ y at. within_more p qs (p ∷ q ∷ qs) (Contains-here p (q ∷ qs)) (λ z in_z. Contains-there p (q ∷ qs) z (Contains-there q qs z in_z)) y (j.from y at));
}

joined_if : (side : Side) (p q : ℕ) (qs : List ℕ) (a b : Bool) → (p == q) ≡ a → reaches side p q ≡ b → Falls side (q ∷ qs) → IsJoined side p qs (put_in_order side p qs)
    → IsJoined side p (q ∷ qs) (if a then q ∷ qs else (if b then p ∷ q ∷ qs else q ∷ put_in_order side p qs))
joined_if side p q qs true b e r f rest =
    let same : q ≡ p = sym (eqb-true p q e) in
    record {
      falls = f;
      to = within_more p (q ∷ qs) (q ∷ qs) (subst (λ (z : ℕ). Contains (q ∷ qs) z) same (Contains-here q qs)) (λ y at. at);
      from = λ y at. Contains-there p (q ∷ qs) y at;
    }
joined_if side p q qs false true e r f rest =
    is_first side p q qs f (λ same. both_ways (p == q) e (eq-eqb p q same)) r
joined_if side p q qs false false e r f rest = is_later side p q qs (put_in_order side p qs) f.0 r rest

joins : (side : Side) (p : ℕ) (qs : List ℕ) → Falls side qs → IsJoined side p qs (put_in_order side p qs)
joins side p [] f = record { falls = (λ y at. absurd (Contains-none y at), tt); to = λ y at. at; from = λ y at. at }
joins side p (q ∷ qs) f = joined_if side p q qs (p == q) (reaches side p q) refl refl f (joins side p qs f.1)

-- ---- a list that falls, and has the members of another
pub record IsInOrder (side : Side) (xs ps : List ℕ) : Type 0 where
  pub falls : Falls side ps
  pub same : SameMembers ps xs

in_order_with : (side : Side) (x : ℕ) (xs ps rs : List ℕ) → IsInOrder side xs ps → IsJoined side x ps rs → IsInOrder side (x ∷ xs) rs
in_order_with side x xs ps rs i j =
    let s = i.same in
    record {
      falls = j.falls;
      same = record {
        to = λ y at. within_later x ps xs s.to y (j.from y at);
        from = λ y at. j.to y (within_later x xs ps s.from y at);
      };
    }

pub in-order : (side : Side) (xs : List ℕ) → IsInOrder side xs (best_first side xs)
in-order side [] = record { falls = tt; same = record { to = λ y at. at; from = λ y at. at } }
in-order side (x ∷ xs) =
    let i = in-order side xs in
    in_order_with side x xs (best_first side xs) (put_in_order side x (best_first side xs)) i (joins side x (best_first side xs) i.falls)

-- ---- two such lists are one
first_same : (side : Side) (p q : ℕ) (ps qs : List ℕ) → Behind side p ps → Behind side q qs → (p ≡ q) ⊎ Contains ps q → (q ≡ p) ⊎ Contains qs p → p ≡ q
first_same side p q ps qs b c (inl same) h = same
first_same side p q ps qs b c (inr later) (inl same) = sym same
first_same side p q ps qs b c (inr later) (inr after) = absurd (both_ways (reaches side p q) (c p after) (reaches-other side q p (b q later)))

rest_in : (side : Side) (p : ℕ) (ps qs : List ℕ) → Behind side p ps → Within (p ∷ ps) (p ∷ qs) → Within ps qs
rest_in side p ps qs b w y at = of (Contains-cases p qs y (w y (Contains-there p ps y at))) where
  of : (p ≡ y) ⊎ Contains qs y → Contains qs y
  of (inl same) = absurd (both_ways (reaches side y p) (b y at) (subst (λ (z : ℕ). reaches side z p ≡ true) same (reaches-itself side p)))
  of (inr later) = later

pub one-order : (side : Side) (ps qs : List ℕ) → Falls side ps → Falls side qs → SameMembers ps qs → ps ≡ qs
one-order side [] [] f g s = refl
one-order side [] (q ∷ qs) f g s = absurd (Contains-none q (s.from q (Contains-here q qs)))
one-order side (p ∷ ps) [] f g s = absurd (Contains-none p (s.to p (Contains-here p ps)))
one-order side (p ∷ ps) (q ∷ qs) f g s =
    let same : p ≡ q = first_same side p q ps qs f.0 g.0 (Contains-cases p ps q (s.from q (Contains-here q qs))) (Contains-cases q qs p (s.to p (Contains-here p ps))) in
    let to = rest_in side p ps qs f.0 (subst (λ (z : ℕ). Within (p ∷ ps) (z ∷ qs)) (sym same) s.to) in
    let from = rest_in side p qs ps (subst (λ (z : ℕ). Behind side z qs) (sym same) g.0) (subst (λ (z : ℕ). Within (z ∷ qs) (p ∷ ps)) (sym same) s.from) in
    let rest : ps ≡ qs = one-order side ps qs f.1 g.1 (record { to = to; from = from }) in
    rw (same, rest) refl

-- what falls and has the members of a list is that list in order
pub is-in-order : (side : Side) (xs ps : List ℕ) → Falls side ps → SameMembers ps xs → ps ≡ best_first side xs
is-in-order side xs ps f s =
    let i = in-order side xs in
    let t = i.same in
    one-order side ps (best_first side xs) f i.falls (record { to = λ y at. t.from y (s.to y at); from = λ y at. s.from y (t.to y at) })

pub same-order : (side : Side) (xs ys : List ℕ) → SameMembers xs ys → best_first side xs ≡ best_first side ys
same-order side xs ys s =
    let i = in-order side xs in
    let t = i.same in
    is-in-order side ys (best_first side xs) i.falls (record { to = λ y at. s.to y (t.to y at); from = λ y at. t.from y (s.from y at) })

pub order-none : (side : Side) (xs : List ℕ) → ((y : ℕ) → Contains xs y → ⊥) → best_first side xs ≡ []
order-none side xs none = sym (is-in-order side xs [] tt (record { to = λ y at. absurd (Contains-none y at); from = λ y at. absurd (none y at) }))

-- ---- the highest first
apart : (p q : ℕ) → nat_le p q ≡ false → nat_lt q p ≡ true
apart p q h = grind (arith, nat_tests)

pub falling : (ps : List ℕ) → Falls Buy ps → is_falling ps ≡ true
falling [] f = refl
falling (p ∷ []) f = refl
falling (p ∷ q ∷ qs) f = and_from (nat_lt q p) (is_falling (q ∷ qs)) (apart p q (f.0 q (Contains-here q qs))) (falling (q ∷ qs) f.1)

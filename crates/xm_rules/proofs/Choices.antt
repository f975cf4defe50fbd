-- Choices from lists of numbers.
use Rattle.std.proofs.Common.{◌≡◌, ℕ, ◌<◌, zero, suc, Bool, true, false, cond, if◌then◌else◌, List, [], ◌∷◌, filter, length, get_or, All, Some, refl, sym, subst, ◌⊎◌, inl, inr, arith}
use Rattle.std.specs.List.{list_all}
use Rattle.std.specs.Prelude.{nat_le}
use Rattle.std.proofs.lemmas.Bool.{and_parts, and_from}
use Rattle.std.proofs.lemmas.Bool.Decides.{nat_tests}
use Rattle.std.proofs.lemmas.List.Elements.{All-head, All-tail}
use Rattle.xm_rules.specs.Sides.{reaches, best, best_from}
use Rattle.xm_ticks.specs.Ranges.{kept_between}
use Rattle.xm_rules.specs.Auction.{highest, lowest, where_greatest, where_least, price_among}
use Rattle.xm_rules.specs.declared.orders.Side.{Side}
use Rattle.xm_rules.specs.declared.orders.Side.TheVariants.{Buy, Sell}

-- a test by which each number is as good as itself, and one of two as good as the other
pub record Ranks (t : ℕ → ℕ → Bool) : Type 0 where
  pub on : (x y z : ℕ) → t x y ≡ true → t y z ≡ true → t x z ≡ true
  pub one : (x y : ℕ) → (t x y ≡ true) ⊎ (t y x ≡ true)

-- one of a list that is as good as each of another
pub record Best (t : ℕ → ℕ → Bool) (xs ys : List ℕ) : Type 0 where
  pub chosen : ℕ
  pub position : ℕ
  pub below : position < length xs
  pub here : get_or xs position chosen ≡ chosen
  pub beats : list_all (t chosen) ys ≡ true

all_on : (t : ℕ → ℕ → Bool) → Ranks t → (x y : ℕ) (zs : List ℕ) → t x y ≡ true → list_all (t y) zs ≡ true → list_all (t x) zs ≡ true
all_on t r x y [] h e = refl
all_on t r x y (z ∷ zs) h e =
    let parts = and_parts (t y z) (list_all (t y) zs) e in
    and_from (t x z) (list_all (t x) zs) (r.on x y z h parts.0) (all_on t r x y zs h parts.1)

itself : (t : ℕ → ℕ → Bool) (x : ℕ) → (t x x ≡ true) ⊎ (t x x ≡ true) → t x x ≡ true
itself t x (inl e) = e
itself t x (inr e) = e

best_of_two : (t : ℕ → ℕ → Bool) → Ranks t → (x : ℕ) (ys : List ℕ) (b : Best t ys ys) → (t x b.chosen ≡ true) ⊎ (t b.chosen x ≡ true) → Best t (x ∷ ys) (x ∷ ys)
best_of_two t r x ys b (inl e) = record {
  chosen = x;
  position = 0;
  below = omega arith;
  here = refl;
  beats = and_from (t x x) (list_all (t x) ys) (itself t x (r.one x x)) (all_on t r x b.chosen ys e b.beats);
}
best_of_two t r x ys b (inr e) = record {
  chosen = b.chosen;
  position = suc b.position;
  below = let h = b.below in omega arith;
  here = b.here;
  beats = and_from (t b.chosen x) (list_all (t b.chosen) ys) e b.beats;
}

pub best_of : (t : ℕ → ℕ → Bool) → Ranks t → (x : ℕ) (xs : List ℕ) → Best t (x ∷ xs) (x ∷ xs)
best_of t r x [] = record {
  chosen = x;
  position = 0;
  below = omega arith;
  here = refl;
  beats = and_from (t x x) true (itself t x (r.one x x)) refl;
}
best_of t r x (y ∷ ys) = let b = best_of t r y ys in best_of_two t r x (y ∷ ys) b (r.one x b.chosen)

kept_if : (p : ℕ → Bool) (x : ℕ) (xs : List ℕ) (b : Bool) → b ≡ true → 0 < length (cond b (x ∷ filter p xs) (filter p xs))
kept_if p x xs true e = omega arith
kept_if p x xs false e = absurd (cc)

more_if : (x : ℕ) (xs : List ℕ) (b : Bool) → 0 < length xs → 0 < length (cond b (x ∷ xs) xs)
more_if x xs true h = omega arith
more_if x xs false h = h

-- a filter keeps something where one passes
filter_has : (p : ℕ → Bool) (xs : List ℕ) (m k : ℕ) → k < length xs → get_or xs k m ≡ m → p m ≡ true → 0 < length (filter p xs)
filter_has p [] m k l e h = absurd (omega arith)
filter_has p (x ∷ xs) m zero l e h = kept_if p x xs (p x) (subst (λ (z : ℕ). p z ≡ true) (sym e) h)
filter_has p (x ∷ xs) m (suc k) l e h = more_if x (filter p xs) (p x) (filter_has p xs m k (omega arith) e h)

ranks_up : (f : ℕ → ℕ) → Ranks (λ x y. nat_le (f y) (f x))
ranks_up f = record { on = λ x y z h i. up_on (f x) (f y) (f z) h i; one = λ x y. up_one (f x) (f y) } where
  up_on : (a b c : ℕ) → nat_le b a ≡ true → nat_le c b ≡ true → nat_le c a ≡ true
  up_on a b c h i = grind (arith, nat_tests)

  up_one : (a b : ℕ) → (nat_le b a ≡ true) ⊎ (nat_le a b ≡ true)
  up_one a b = grind (arith, nat_tests)

pub ranks_down : (f : ℕ → ℕ) → Ranks (λ x y. nat_le (f x) (f y))
ranks_down f = record { on = λ x y z h i. down_on (f x) (f y) (f z) h i; one = λ x y. down_one (f x) (f y) } where
  down_on : (a b c : ℕ) → nat_le a b ≡ true → nat_le b c ≡ true → nat_le a c ≡ true
  down_on a b c h i = grind (arith, nat_tests)

  down_one : (a b : ℕ) → (nat_le a b ≡ true) ⊎ (nat_le b a ≡ true)
  down_one a b = grind (arith, nat_tests)

-- of a list that isn't empty one is greatest, and one least
pub greatest_exists : (f : ℕ → ℕ) (xs : List ℕ) → 0 < length xs → 0 < length (where_greatest f xs)
greatest_exists f [] h = absurd (omega arith)
greatest_exists f (x ∷ xs) h =
    let b = best_of (λ x y. nat_le (f y) (f x)) (ranks_up f) x xs in
    filter_has (λ z. list_all (λ y. nat_le (f y) (f z)) (x ∷ xs)) (x ∷ xs) b.chosen b.position b.below b.here b.beats

pub least_exists : (f : ℕ → ℕ) (xs : List ℕ) → 0 < length xs → 0 < length (where_least f xs)
least_exists f [] h = absurd (omega arith)
least_exists f (x ∷ xs) h =
    let b = best_of (λ x y. nat_le (f x) (f y)) (ranks_down f) x xs in
    filter_has (λ z. list_all (λ y. nat_le (f z) (f y)) (x ∷ xs)) (x ∷ xs) b.chosen b.position b.below b.here b.beats

module _ (P : ℕ → Type 0) where
  either : (b : Bool) (x y : ℕ) → P x → P y → P (if b then x else y)
  either true x y h i = h
  either false x y h i = i

  pub best_from_has : (side : Side) (x : ℕ) (xs : List ℕ) → P x → All P xs → P (best_from side x xs)
  best_from_has side x [] h all = h
  best_from_has side x (y ∷ ys) h all =
      best_from_has side (if reaches side x y then x else y) ys (either (reaches side x y) x y h (All-head P y ys all)) (All-tail P y ys all)

  -- what holds of each of some prices holds of the best of them
  pub best_has : (side : Side) (xs : List ℕ) (x : ℕ) → best side xs ≡ Some x → All P xs → P x
  best_has side [] x e all = absurd (cc)
  best_has side (y ∷ ys) x e all =
      let same : best_from side y ys ≡ x = cc in
      subst P same (best_from_has side y ys (All-head P y ys all) (All-tail P y ys all))

  highest_has : (xs : List ℕ) → 0 < length xs → All P xs → P (highest xs)
  highest_has [] h all = absurd (omega arith)
  highest_has (x ∷ xs) h all = best_from_has Buy x xs (All-head P x xs all) (All-tail P x xs all)

  lowest_has : (xs : List ℕ) → 0 < length xs → All P xs → P (lowest xs)
  lowest_has [] h all = absurd (omega arith)
  lowest_has (x ∷ xs) h all = best_from_has Sell x xs (All-head P x xs all) (All-tail P x xs all)

  kept_has_if : (low high reference : ℕ) (a b : Bool) → nat_le reference low ≡ a → nat_le high reference ≡ b
      → ((x : ℕ) → low < x → x < high → P x) → P low → P high → P (if a then low else (if b then high else reference))
  kept_has_if low high reference true b e f between h i = h
  kept_has_if low high reference false true e f between h i = i
  kept_has_if low high reference false false e f between h i = between reference (above reference low e) (above high reference f) where
    above : (m n : ℕ) → nat_le m n ≡ false → n < m
    above m n g = grind (arith, nat_tests)

  kept_has : (low high reference : ℕ) → ((x : ℕ) → low < x → x < high → P x) → P low → P high → P (kept_between low high reference)
  kept_has low high reference between h i = kept_has_if low high reference (nat_le reference low) (nat_le high reference) refl refl between h i

  -- what holds of each of the best, and of what lies between two of which it holds, holds of the price among them
  pub price_among_has : ((low high x : ℕ) → P low → P high → low < x → x < high → P x) → (reference : ℕ) (xs bs ss : List ℕ)
      → 0 < length xs → All P xs → All P bs → All P ss → P (price_among reference xs bs ss)
  price_among_has between reference xs [] [] h all buys sells =
      let l = lowest_has xs h all in
      let m = highest_has xs h all in
      kept_has (lowest xs) (highest xs) reference (λ x. between (lowest xs) (highest xs) x l m) l m
  price_among_has between reference xs (b ∷ bs) [] h all buys sells = highest_has xs h all
  price_among_has between reference xs [] (s ∷ ss) h all buys sells = lowest_has xs h all
  price_among_has between reference xs (b ∷ bs) (s ∷ ss) h all buys sells =
      let l = highest_has (b ∷ bs) (omega arith) buys in
      let m = lowest_has (s ∷ ss) (omega arith) sells in
      kept_has (highest (b ∷ bs)) (lowest (s ∷ ss)) reference (λ x. between (highest (b ∷ bs)) (lowest (s ∷ ss)) x l m) l m

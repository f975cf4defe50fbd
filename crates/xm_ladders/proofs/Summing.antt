-- How the units of a group of limits follow one level.
use Rattle.std.proofs.Common.{◌≡◌, ℕ, zero, suc, ◌+◌, ◌-◌, ◌*◌, ◌/◌, ◌^◌, ◌<◌, ◌≤◌, ◌==◌, Bool, true, false, if◌then◌else◌, List, Option, Some, None, refl, ap, sym, ◌∙◌, subst, arith, ◌⊎◌, inl, inr}
use Rattle.std.specs.Prelude.{IfSome, nat_lt}
use Rattle.std.proofs.lemmas.Bool.{ltb-true}
use Rattle.std.proofs.lemmas.Bool.Decides.{nat_tests}
use Rattle.xm_ladders.specs.Ladder.{HasOrders, IsHeld, IsSummed, units_above, units_of}
use Rattle.xm_ladders.specs.declared.level.Level.{Level}
use Rattle.xm_ladders.specs.declared.level.TheConstants.{MAX_LEVEL_UNITS}
use Rattle.xm_price_maps.specs.Levels.{LevelsView, level_at}
use Rattle.xm_price_maps.specs.Sums.{groups_of, places_of, group_sum}
use Rattle.xm_price_maps.specs.declared.marks.TheConstants.{PRICES}
use Rattle.xm_price_maps.specs.declared.sums.GroupWidth.{GroupWidth}
use Rattle.xm_price_maps.specs.declared.sums.GroupWidth.TheVariants.{Narrow, Middle, Wide}

pub units-of-nothing : (limits : LevelsView Level) → ((p : ℕ) → level_at limits p ≡ None) → (low n : ℕ) → units_above limits low n ≡ 0
unfolding units_above
units-of-nothing limits none low zero = refl
units-of-nothing limits none low (suc n) = omega (arith, ap units_of (none (low + 1)), units-of-nothing limits none (low + 1) n)

pub nothing-held : (limits : LevelsView Level) → ((p : ℕ) → level_at limits p ≡ None) → HasOrders limits
nothing-held limits none p = subst (λ (o : Option Level). IfSome o (IsHeld p)) (sym (none p)) tt

-- levels that are the same are held alike, and have the same units
pub held-same : (limits limits' : LevelsView Level) → ((p : ℕ) → level_at limits' p ≡ level_at limits p) → HasOrders limits → HasOrders limits'
held-same limits limits' same h p = subst (λ (o : Option Level). IfSome o (IsHeld p)) (sym (same p)) (h p)

pub units-same : (limits limits' : LevelsView Level) → ((p : ℕ) → level_at limits' p ≡ level_at limits p) → (low n : ℕ) → units_above limits' low n ≡ units_above limits low n
unfolding units_above
units-same limits limits' same low zero = refl
units-same limits limits' same low (suc n) = omega (arith, ap units_of (same (low + 1)), units-same limits limits' same (low + 1) n)

held_few : (p : ℕ) (o : Option Level) → IfSome o (IsHeld p) → units_of o ≤ MAX_LEVEL_UNITS
held_few p None h = omega arith
held_few p (Some level) h = h.2

units-bounded : (limits : LevelsView Level) → HasOrders limits → (low n : ℕ) → units_above limits low n ≤ MAX_LEVEL_UNITS * n
unfolding units_above
units-bounded limits h low zero = omega arith
units-bounded limits h low (suc n) = omega (arith, held_few (low + 1) (level_at limits (low + 1)) (h (low + 1)), units-bounded limits h (low + 1) n)

-- one level among the others
module _ (limits limits' : LevelsView Level) (p : ℕ) (new : Option Level) (levels : (q : ℕ) → level_at limits' q ≡ (if q == p then new else level_at limits q)) where
  at-other : (q : ℕ) (b : Bool) → (q == p) ≡ b → b ≡ false → level_at limits' q ≡ level_at limits q
  at-other q true e f = absurd (cc)
  at-other q false e f = levels q ∙ ap (λ (b : Bool). if b then new else level_at limits q) e

  apart : (m n : ℕ) → (m < n) ⊎ (n < m) → (m == n) ≡ false
  apart m n (inl l) = grind (arith, nat_tests)
  apart m n (inr l) = grind (arith, nat_tests)

  equal : (m n : ℕ) → m ≡ n → (m == n) ≡ true
  equal m n e = grind (arith, nat_tests)

  -- outside of the range
  units-outside : (low n : ℕ) → (p ≤ low) ⊎ (low + n < p) → units_above limits' low n ≡ units_above limits low n
  unfolding units_above
  units-outside low zero out = refl
  units-outside low (suc n) (inl l) =
      let first = at-other (low + 1) ((low + 1) == p) refl (apart (low + 1) p (inr (omega (arith, l)))) in
      omega (arith, ap units_of first, units-outside (low + 1) n (inl (omega (arith, l))))
  units-outside low (suc n) (inr l) =
      let first = at-other (low + 1) ((low + 1) == p) refl (apart (low + 1) p (inl (omega (arith, l)))) in
      omega (arith, ap units_of first, units-outside (low + 1) n (inr (omega (arith, l))))

  at-it : level_at limits' p ≡ new
  at-it = levels p ∙ ap (λ (b : Bool). if b then new else level_at limits p) (equal p p refl)

  -- within it
  units-inside : (low n : ℕ) → low < p → p ≤ low + n → units_above limits' low n + units_of (level_at limits p) ≡ units_above limits low n + units_of new
  unfolding units_above
  units-inside low zero above below = absurd (omega (arith, above, below))
  units-inside low (suc n) above below = by_test (units-inside (low + 1) n) ((low + 1) == p) refl where
    by_test : (low + 1 < p → p ≤ low + 1 + n → units_above limits' (low + 1) n + units_of (level_at limits p) ≡ units_above limits (low + 1) n + units_of new)
        → (b : Bool) → ((low + 1) == p) ≡ b → units_above limits' low (suc n) + units_of (level_at limits p) ≡ units_above limits low (suc n) + units_of new
    by_test behind true e =
        let here : low + 1 ≡ p = grind (arith, nat_tests) in
        let was = ap (λ (q : ℕ). units_of (level_at limits q)) here in
        let is = ap (λ (q : ℕ). units_of (level_at limits' q)) here ∙ ap units_of at-it in
        omega (arith, was, is, units-outside (low + 1) n (inl (omega (arith, here))))
    by_test behind false e =
        let there : low + 1 < p = grind (arith, nat_tests) in
        omega (arith, ap units_of (at-other (low + 1) ((low + 1) == p) refl e), behind there (omega (arith, below)))

-- a level within a range has no more units than the range
units-part : (limits : LevelsView Level) (p low n : ℕ) → low < p → p ≤ low + n → units_of (level_at limits p) ≤ units_above limits low n
unfolding units_above
units-part limits p low zero above below = absurd (omega (arith, above, below))
units-part limits p low (suc n) above below = by_test (units-part limits p (low + 1) n) ((low + 1) == p) refl where
  by_test : (low + 1 < p → p ≤ low + 1 + n → units_of (level_at limits p) ≤ units_above limits (low + 1) n) → (b : Bool) → ((low + 1) == p) ≡ b
      → units_of (level_at limits p) ≤ units_above limits low (suc n)
  by_test behind true e =
      let here : low + 1 ≡ p = grind (arith, nat_tests) in
      omega (arith, ap (λ (q : ℕ). units_of (level_at limits q)) here)
  by_test behind false e =
      let there : low + 1 < p = grind (arith, nat_tests) in
      omega (arith, behind there (omega (arith, below)))

-- ---- groups
group_above : (width : GroupWidth) (place : ℕ) → (place / places_of width) * places_of width < place + 1
group_above Narrow place = omega arith
group_above Middle place = omega arith
group_above Wide place = omega arith

group_below : (width : GroupWidth) (place : ℕ) → place + 1 ≤ (place / places_of width) * places_of width + places_of width
group_below Narrow place = omega arith
group_below Middle place = omega arith
group_below Wide place = omega arith

pub group_there : (width : GroupWidth) (place : ℕ) → place < PRICES → place / places_of width < groups_of width
group_there Narrow place h = omega (arith, h)
group_there Middle place h = omega (arith, h)
group_there Wide place h = omega (arith, h)

other_group : (width : GroupWidth) (group place : ℕ) → (group == place / places_of width) ≡ false → (place + 1 ≤ group * places_of width) ⊎ (group * places_of width + places_of width < place + 1)
other_group width group place e = of_width width (two_sides group (place / places_of width) e) where
  two_sides : (m n : ℕ) → (m == n) ≡ false → (m < n) ⊎ (n < m)
  two_sides m n f = by (nat_lt m n) refl where
    by : (b : Bool) → nat_lt m n ≡ b → (m < n) ⊎ (n < m)
    by true t = inl (ltb-true m n t)
    by false t = inr (grind (arith, nat_tests))

  of_width : (width : GroupWidth) → (group < place / places_of width) ⊎ (place / places_of width < group) → (place + 1 ≤ group * places_of width) ⊎ (group * places_of width + places_of width < place + 1)
  of_width Narrow (inl l) = inr (omega (arith, l))
  of_width Middle (inl l) = inr (omega (arith, l))
  of_width Narrow (inr l) = inl (omega (arith, l))
  of_width Middle (inr l) = inl (omega (arith, l))
  of_width Wide (inl l) = inr (omega (arith, l))
  of_width Wide (inr l) = inl (omega (arith, l))

module _ (limits : LevelsView Level) (sums : List (List ℕ)) (orders : HasOrders limits) (summed : IsSummed limits sums) (place : ℕ) (within : place < PRICES) where
  -- a group's sum has the units of each of its levels, and room for another one's
  pub sum-there : (width : GroupWidth) → units_of (level_at limits (place + 1)) ≤ group_sum sums width (place / places_of width)
  sum-there width =
      let part = units-part limits (place + 1) ((place / places_of width) * places_of width) (places_of width) (group_above width place) (group_below width place) in
      omega (arith, part, summed width (place / places_of width) (group_there width place within))

  few_places : (width : GroupWidth) → MAX_LEVEL_UNITS * places_of width + MAX_LEVEL_UNITS < 2 ^ 64
  few_places Narrow = omega arith
  few_places Middle = omega arith
  few_places Wide = omega arith

  pub sum-fits : (units : ℕ) → units ≤ MAX_LEVEL_UNITS → (width : GroupWidth) → group_sum sums width (place / places_of width) + units < 2 ^ 64
  sum-fits units few width =
      let bound = units-bounded limits orders ((place / places_of width) * places_of width) (places_of width) in
      omega (arith, bound, few, few_places width, summed width (place / places_of width) (group_there width place within))

  -- a level that is put is held, and so are the others
  module _ (limits' : LevelsView Level) (new : Option Level) (levels : (q : ℕ) → level_at limits' q ≡ (if q == place + 1 then new else level_at limits q)) where
    pub held-after : IfSome new (IsHeld (place + 1)) → HasOrders limits'
    held-after held q = subst (λ (o : Option Level). IfSome o (IsHeld q)) (sym (levels q)) (by_test (q == place + 1) refl) where
      by_test : (b : Bool) → (q == place + 1) ≡ b → IfSome (if b then new else level_at limits q) (IsHeld q)
      by_test true e = let same : place + 1 ≡ q = grind (arith, nat_tests) in subst (λ (p : ℕ). IfSome new (IsHeld p)) same held
      by_test false e = orders q

  -- sums that follow a level that is put are those of the levels
  module _ (limits' : LevelsView Level) (sums' : List (List ℕ)) (new : Option Level) (levels : (q : ℕ) → level_at limits' q ≡ (if q == place + 1 then new else level_at limits q))
      (followed : (width : GroupWidth) (group : ℕ) → group < groups_of width
      → group_sum sums' width group ≡ (if group == place / places_of width then (group_sum sums width group - units_of (level_at limits (place + 1))) + units_of new else group_sum sums width group)) where
    pub summed-put : IsSummed limits' sums'
    summed-put width group there = by_test (group == place / places_of width) refl where
      by_test : (b : Bool) → (group == place / places_of width) ≡ b → group_sum sums' width group ≡ units_above limits' (group * places_of width) (places_of width)
      by_test true e =
          let same : group ≡ place / places_of width = grind (arith, nat_tests) in
          let is = followed width group there ∙ ap (λ (b : Bool). if b then (group_sum sums width group - units_of (level_at limits (place + 1))) + units_of new else group_sum sums width group) e in
          let has : units_of (level_at limits (place + 1)) ≤ group_sum sums width group = subst (λ (g : ℕ). units_of (level_at limits (place + 1)) ≤ group_sum sums width g) (sym same) (sum-there width) in
          let above : group * places_of width < place + 1 = subst (λ (g : ℕ). g * places_of width < place + 1) (sym same) (group_above width place) in
          let below : place + 1 ≤ group * places_of width + places_of width = subst (λ (g : ℕ). place + 1 ≤ g * places_of width + places_of width) (sym same) (group_below width place) in
          let moved = units-inside limits limits' (place + 1) new levels (group * places_of width) (places_of width) above below in
          omega (arith, is, has, moved, summed width group there)
      by_test false e =
          let is = followed width group there ∙ ap (λ (b : Bool). if b then (group_sum sums width group - units_of (level_at limits (place + 1))) + units_of new else group_sum sums width group) e in
          is ∙ summed width group there ∙ sym (units-outside limits limits' (place + 1) new levels (group * places_of width) (places_of width) (other_group width group place e))

-- Which candidates have the greatest volume and, of these, the least surplus.
use Rattle.std.proofs.Common.{◌≡◌, ℕ, ◌+◌, ◌<◌, ◌≤◌, Bool, true, false, ◌==◌, if◌then◌else◌, List, [], ◌∷◌, filter, All, Contains, Option, Some, None, refl, ap, sym, ◌∙◌, subst, arith, ◌⊎◌, inl, inr}
use Rattle.std.specs.List.{list_all}
use Rattle.std.specs.Prelude.{nat_le, nat_lt, unwrap_or}
use Rattle.std.proofs.lemmas.Bool.{and_from, and_parts, both_ways, eq-eqb, eqb-true, false_from_ne_true, leb-true, le-leb, lt-ltb, ltb-true}
use Rattle.std.proofs.lemmas.Bool.Decides.{nat_tests}
use Rattle.std.proofs.lemmas.List.Elements.{All-contains_itself, All-weaker}
use Rattle.xm_auction.specs.Prices.{executed}
use Rattle.xm_book.proofs.Bests.{best-is}
use Rattle.xm_slots.proofs.Members.{Contains-cases, Contains-filter, Contains-here, Contains-none, Contains-there, Passes-filter, filter_none}
use Rattle.xm_ticks.specs.Ranges.{kept_between}
use Rattle.xm_rules.specs.Auction.{absolute_surplus, accepting, auction_price, best_candidates, candidates, chosen_price, highest, lowest, price_among, price_from, surplus, volume, where_greatest, with_volume}
use Rattle.xm_rules.specs.Sides.{best, opposite, reaches}
use Rattle.xm_rules.specs.declared.orders.Order.{Order}
use Rattle.xm_rules.specs.declared.orders.Side.{Side}
use Rattle.xm_rules.specs.declared.orders.Side.TheVariants.{Buy, Sell}
use Rattle.xm_rules.specs.declared.phases.Phase.{Phase}
use Rattle.xm_rules.proofs.Volumes.{demand_falls, supply_rises, volume_anywhere, volume_between}

-- ---- tests of all of a list
all_here : (p : ℕ → Bool) (x : ℕ) (xs : List ℕ) (y : ℕ) → p x ≡ true → (Contains xs y → p y ≡ true) → (x ≡ y) ⊎ Contains xs y → p y ≡ true
all_here p x xs y h rest (inl same) = subst (λ (z : ℕ). p z ≡ true) same h
all_here p x xs y h rest (inr later) = rest later

pub all-says : (p : ℕ → Bool) (xs : List ℕ) (y : ℕ) → list_all p xs ≡ true → Contains xs y → p y ≡ true
all-says p [] y h at = absurd (Contains-none y at)
all-says p (x ∷ xs) y h at =
    let parts = and_parts (p x) (list_all p xs) h in
    all_here p x xs y parts.0 (all-says p xs y parts.1) (Contains-cases x xs y at)

pub all-from : (p : ℕ → Bool) (xs : List ℕ) → ((y : ℕ) → Contains xs y → p y ≡ true) → list_all p xs ≡ true
all-from p [] h = refl
all-from p (x ∷ xs) h = and_from (p x) (list_all p xs) (h x (Contains-here x xs)) (all-from p xs (λ y at. h y (Contains-there x xs y at)))

module _ (phase : Phase) (orders : List Order) where
  abbrev units : Side → ℕ → ℕ
  units side x = accepting phase orders side x

  -- ---- the curves of a side and of the other
  pub own-falls : (side : Side) (x y : ℕ) → reaches side x y ≡ true → units side x ≤ units side y
  own-falls Buy x y r = demand_falls phase orders y x (leb-true y x r)
  own-falls Sell x y r = supply_rises phase orders x y (leb-true x y r)

  pub other-rises : (side : Side) (x y : ℕ) → reaches side x y ≡ true → units (opposite side) y ≤ units (opposite side) x
  other-rises Buy x y r = supply_rises phase orders y x (leb-true y x r)
  other-rises Sell x y r = demand_falls phase orders x y (leb-true x y r)

  volume_within : (side : Side) (x : ℕ) → volume phase orders x ≤ units (opposite side) x
  volume_within Buy x = omega arith
  volume_within Sell x = omega arith

  pub volume_covered : (side : Side) (x : ℕ) → units (opposite side) x ≤ units side x → volume phase orders x ≡ units (opposite side) x
  volume_covered Buy x h = omega (arith, h)
  volume_covered Sell x h = omega (arith, h)

  pub surplus_covered : (side : Side) (x : ℕ) → units (opposite side) x ≤ units side x → absolute_surplus phase orders x + units (opposite side) x ≡ units side x
  surplus_covered Buy x h = omega (arith, h)
  surplus_covered Sell x h = omega (arith, h)

  surplus_own : (side : Side) (x : ℕ) → surplus phase orders side x ≤ absolute_surplus phase orders x
  surplus_own Buy x = omega arith
  surplus_own Sell x = omega arith

  pub surplus_at : (side : Side) (x : ℕ) → units (opposite side) x ≤ units side x → absolute_surplus phase orders x ≡ surplus phase orders side x
  surplus_at Buy x h = omega (arith, h)
  surplus_at Sell x h = omega (arith, h)

  -- ---- the best candidates
  pub record Wins (x : ℕ) : Type 0 where
    pub there : Contains (candidates phase orders) x
    pub greatest : (y : ℕ) → Contains (candidates phase orders) y → volume phase orders y ≤ volume phase orders x
    pub least : (y : ℕ) → Contains (candidates phase orders) y → volume phase orders x ≤ volume phase orders y → absolute_surplus phase orders x ≤ absolute_surplus phase orders y

  abbrev tops : ℕ → Bool
  tops x = list_all (λ y. nat_le (volume phase orders y) (volume phase orders x)) (candidates phase orders)

  abbrev top_candidates : List ℕ
  top_candidates = where_greatest (volume phase orders) (candidates phase orders)

  abbrev leasts : ℕ → Bool
  leasts x = list_all (λ y. nat_le (absolute_surplus phase orders x) (absolute_surplus phase orders y)) top_candidates

  top_of : (x : ℕ) → Contains (candidates phase orders) x → ((y : ℕ) → Contains (candidates phase orders) y → volume phase orders y ≤ volume phase orders x) → Contains top_candidates x
  top_of x at h =
      Contains-filter tops (candidates phase orders) x
      (all-from (λ y. nat_le (volume phase orders y) (volume phase orders x)) (candidates phase orders) (λ y in_y. le-leb (volume phase orders y) (volume phase orders x) (h y in_y))) at

  top_says : (x : ℕ) → Contains top_candidates x → Contains (candidates phase orders) x × ((y : ℕ) → Contains (candidates phase orders) y → volume phase orders y ≤ volume phase orders x)
  top_says x at =
      let p = Passes-filter tops (candidates phase orders) x at in (
        p.contains,
        λ y in_y. leb-true (volume phase orders y) (volume phase orders x)
            (all-says (λ y. nat_le (volume phase orders y) (volume phase orders x)) (candidates phase orders) y p.passes in_y),
      )

  pub wins-in : (x : ℕ) → Wins x → Contains (best_candidates phase orders) x
  wins-in x w =
      Contains-filter leasts top_candidates x
      (all-from (λ y. nat_le (absolute_surplus phase orders x) (absolute_surplus phase orders y)) top_candidates
      (λ y in_y. let t = top_says y in_y in le-leb (absolute_surplus phase orders x) (absolute_surplus phase orders y) (w.least y t.0 (t.1 x w.there))))
      (top_of x w.there w.greatest)

  pub in-wins : (x : ℕ) → Contains (best_candidates phase orders) x → Wins x
  in-wins x at =
      let p = Passes-filter leasts top_candidates x at in
      let t = top_says x p.contains in
      record {
        there = t.0;
        greatest = t.1;
        least = λ y in_y h. leb-true (absolute_surplus phase orders x) (absolute_surplus phase orders y)
            (all-says (λ y. nat_le (absolute_surplus phase orders x) (absolute_surplus phase orders y)) top_candidates y p.passes
            (top_of y in_y (λ z in_z. let a = t.1 z in_z in omega (arith, a, h))));
      }

  -- ---- the best candidate at which a side covers the other
  pub record IsCovered (side : Side) (x : ℕ) : Type 0 where
    pub there : Contains (candidates phase orders) x
    pub covered : units (opposite side) x ≤ units side x
    pub first : (y : ℕ) → Contains (candidates phase orders) y → units (opposite side) y ≤ units side y → reaches side x y ≡ true

  -- none at which the other side covers this one has more volume, or as much and less surplus
  abbrev pub NotWorse : Side → ℕ → Type 0
  NotWorse side x =
      (y : ℕ) → IsCovered (opposite side) y → (volume phase orders y ≤ volume phase orders x)
      × (volume phase orders x ≤ volume phase orders y → absolute_surplus phase orders x ≤ absolute_surplus phase orders y)

  -- there is such a candidate wherever the other side covers this one at any
  abbrev pub HasOther : Side → Type 0
  HasOther side = (y : ℕ) → Contains (candidates phase orders) y → units side y ≤ units (opposite side) y → (x : ℕ) × IsCovered (opposite side) x

  opposite_twice : (side : Side) → opposite (opposite side) ≡ side
  opposite_twice Buy = refl
  opposite_twice Sell = refl

  -- what a candidate has, at which a side covers the other, beside the best such one
  own_less : (side : Side) (x : ℕ) → IsCovered side x → (y : ℕ) → Contains (candidates phase orders) y → units (opposite side) y ≤ units side y
      → (volume phase orders y ≤ volume phase orders x) × (volume phase orders x ≤ volume phase orders y → absolute_surplus phase orders x ≤ absolute_surplus phase orders y)
  own_less side x k y at c =
      let r = k.first y at c in
      let k_covered = k.covered in
      let vx = volume_covered side x k_covered in
      let vy = volume_covered side y c in
      let ex = surplus_covered side x k_covered in
      let ey = surplus_covered side y c in
      let own = own-falls side x y r in
      let other = other-rises side x y r in (
        omega (arith, vx, vy, other),
        λ h. omega (arith, vx, vy, ex, ey, own, other, h),
      )

  less_by : (side : Side) (x : ℕ) → IsCovered side x → NotWorse side x → HasOther side → (y : ℕ) → Contains (candidates phase orders) y
      → (units (opposite side) y ≤ units side y) ⊎ (units side y ≤ units (opposite side) y)
      → (volume phase orders y ≤ volume phase orders x) × (volume phase orders x ≤ volume phase orders y → absolute_surplus phase orders x ≤ absolute_surplus phase orders y)
  less_by side x k better has y at (inl c) = own_less side x k y at c
  less_by side x k better has y at (inr c) =
      let z = has y at c in
      let zx = better z.0 z.1 in
      let back : units (opposite (opposite side)) y ≤ units (opposite side) y = subst (λ (s : Side). units s y ≤ units (opposite side) y) (sym (opposite_twice side)) c in
      let yz = own_less (opposite side) z.0 z.1 y at back in
      let v = zx.0 in
      let w = yz.0 in (
        omega (arith, v, w),
        λ h. (
            let e = zx.1 (omega (arith, v, w, h)) in
            let f = yz.1 (omega (arith, v, w, h)) in
            omega (arith, e, f)),
      )

  pub either_covers : (side : Side) (y : ℕ) → (units (opposite side) y ≤ units side y) ⊎ (units side y ≤ units (opposite side) y)
  either_covers side y = one (units (opposite side) y) (units side y) where
    one : (a b : ℕ) → (a ≤ b) ⊎ (b ≤ a)
    one a b = by (nat_le a b) refl where
      by : (t : Bool) → nat_le a b ≡ t → (a ≤ b) ⊎ (b ≤ a)
      by true e = inl (leb-true a b e)
      by false e = inr (grind (arith, nat_tests))

  -- a candidate at which a side covers the other, and than which none of the other side's is better, is one of the best
  pub covered-wins : (side : Side) (x : ℕ) → IsCovered side x → NotWorse side x → HasOther side → Wins x
  covered-wins side x k better has = record {
    there = k.there;
    greatest = λ y at. (less_by side x k better has y at (either_covers side y)).0;
    least = λ y at. (less_by side x k better has y at (either_covers side y)).1;
  }

  -- it has more volume than each at which the other side covers this one, or as much and less surplus
  abbrev pub Beats : Side → ℕ → Type 0
  Beats side x =
      (y : ℕ) → IsCovered (opposite side) y → (volume phase orders y < volume phase orders x)
      ⊎ ((volume phase orders x ≡ volume phase orders y) × (absolute_surplus phase orders x < absolute_surplus phase orders y))

  not_worse : (x y : ℕ) → (volume phase orders y < volume phase orders x) ⊎ ((volume phase orders x ≡ volume phase orders y) × (absolute_surplus phase orders x < absolute_surplus phase orders y))
      → (volume phase orders y ≤ volume phase orders x) × (volume phase orders x ≤ volume phase orders y → absolute_surplus phase orders x ≤ absolute_surplus phase orders y)
  not_worse x y (inl more) = (omega (arith, more), λ h. absurd (omega (arith, more, h)))
  not_worse x y (inr less) = let a = less.0 in let b = less.1 in (omega (arith, a), λ h. omega (arith, b))

  pub beats-not_worse : (side : Side) (x : ℕ) → Beats side x → NotWorse side x
  beats-not_worse side x beats = λ y k. not_worse x y (beats y k)

  beaten : (x y z : ℕ) → (volume phase orders y < volume phase orders x) ⊎ ((volume phase orders x ≡ volume phase orders y) × (absolute_surplus phase orders x < absolute_surplus phase orders y))
      → volume phase orders z ≤ volume phase orders y → (volume phase orders y ≤ volume phase orders z → absolute_surplus phase orders y ≤ absolute_surplus phase orders z)
      → volume phase orders x ≤ volume phase orders z → absolute_surplus phase orders z ≤ absolute_surplus phase orders x → ⊥
  beaten x y z (inl more) v e h i = omega (arith, more, v, h)
  beaten x y z (inr less) v e h i = let a = less.0 in let b = less.1 in let f = e (omega (arith, a, h)) in omega (arith, b, f, i)

  -- then no candidate is one of the best at which the other side covers this one
  pub beats-covers : (side : Side) (x : ℕ) → Beats side x → HasOther side → (z : ℕ) → Contains (candidates phase orders) z
      → volume phase orders x ≤ volume phase orders z → absolute_surplus phase orders z ≤ absolute_surplus phase orders x → units (opposite side) z < units side z
  beats-covers side x beats has z at h i = above (units (opposite side) z) (units side z) (λ c.
      let y = has z at c in
      let back : units (opposite (opposite side)) z ≤ units (opposite side) z = subst (λ (s : Side). units s z ≤ units (opposite side) z) (sym (opposite_twice side)) c in
      let yz = own_less (opposite side) y.0 y.1 z at back in
      beaten x y.0 z (beats y.0 y.1) yz.0 yz.1 h i) where
        above : (a b : ℕ) → (b ≤ a → ⊥) → a < b
        above a b never = by (nat_le b a) refl where
          by : (t : Bool) → nat_le b a ≡ t → a < b
          by true e = absurd (never (leb-true b a e))
          by false e = grind (arith, nat_tests)

  -- ---- the price among the best candidates
  abbrev has_surplus : Side → ℕ → Bool
  has_surplus side x = nat_lt 0 (surplus phase orders side x)

  abbrev winners : List ℕ
  winners = best_candidates phase orders

  best_winner : (side : Side) (x : ℕ) → Wins x → ((z : ℕ) → Wins z → reaches side x z ≡ true) → unwrap_or (best side winners) 0 ≡ x
  best_winner side x w first =
      ap (λ (o : Option ℕ). unwrap_or o 0) (best-is side winners x (record { there = wins-in x w; reaches_all = λ z at. first z (in-wins z at) }))

  no_surplus : (side : Side) → ((z : ℕ) → Wins z → surplus phase orders side z ≡ 0) → filter (has_surplus side) winners ≡ []
  no_surplus side none = filter_none (has_surplus side) winners (λ z at. let e = none z (in-wins z at) in rw e refl)

  a_surplus : (side : Side) (x : ℕ) → Wins x → 0 < surplus phase orders side x → Contains (filter (has_surplus side) winners) x
  a_surplus side x w h = Contains-filter (has_surplus side) winners x (lt-ltb 0 (surplus phase orders side x) h) (wins-in x w)

  among_buys : (last : ℕ) (xs bs ss : List ℕ) (x : ℕ) → Contains bs x → ss ≡ [] → price_among last xs bs ss ≡ highest xs
  among_buys last xs [] ss x at e = absurd (Contains-none x at)
  among_buys last xs (b ∷ bs) [] x at e = refl
  among_buys last xs (b ∷ bs) (s ∷ ss) x at e = absurd (cc)

  among_sells : (last : ℕ) (xs bs ss : List ℕ) (x : ℕ) → Contains ss x → bs ≡ [] → price_among last xs bs ss ≡ lowest xs
  among_sells last xs bs [] x at e = absurd (Contains-none x at)
  among_sells last xs [] (s ∷ ss) x at e = refl
  among_sells last xs (b ∷ bs) (s ∷ ss) x at e = absurd (cc)

  among_both : (last : ℕ) (xs bs ss : List ℕ) (x y : ℕ) → Contains bs x → Contains ss y → price_among last xs bs ss ≡ kept_between (highest bs) (lowest ss) last
  among_both last xs [] ss x y at to = absurd (Contains-none x at)
  among_both last xs (b ∷ bs) [] x y at to = absurd (Contains-none y to)
  among_both last xs (b ∷ bs) (s ∷ ss) x y at to = refl

  among_none : (last : ℕ) (xs bs ss : List ℕ) → bs ≡ [] → ss ≡ [] → price_among last xs bs ss ≡ kept_between (lowest xs) (highest xs) last
  among_none last xs [] [] e f = refl
  among_none last xs (b ∷ bs) ss e f = absurd (cc)
  among_none last xs [] (s ∷ ss) e f = absurd (cc)

  pub chosen_of_side : (side : Side) (last x : ℕ) → Wins x → 0 < surplus phase orders side x → ((z : ℕ) → Wins z → surplus phase orders (opposite side) z ≡ 0)
      → ((z : ℕ) → Wins z → reaches side x z ≡ true) → chosen_price phase orders last ≡ x
  chosen_of_side Buy last x w some none first =
      among_buys last winners (filter (has_surplus Buy) winners) (filter (has_surplus Sell) winners) x (a_surplus Buy x w some) (no_surplus Sell none) ∙ best_winner Buy x w first
  chosen_of_side Sell last x w some none first =
      among_sells last winners (filter (has_surplus Buy) winners) (filter (has_surplus Sell) winners) x (a_surplus Sell x w some) (no_surplus Buy none) ∙ best_winner Sell x w first

  best_of_surplus : (side : Side) (x : ℕ) → Wins x → 0 < surplus phase orders side x → ((z : ℕ) → Wins z → 0 < surplus phase orders side z → reaches side x z ≡ true)
      → unwrap_or (best side (filter (has_surplus side) winners)) 0 ≡ x
  best_of_surplus side x w some first =
      ap (λ (o : Option ℕ). unwrap_or o 0) (best-is side (filter (has_surplus side) winners) x (record {
        there = a_surplus side x w some;
        reaches_all = λ z at. let p = Passes-filter (has_surplus side) winners z at in first z (in-wins z p.contains) (ltb-true 0 (surplus phase orders side z) p.passes);
      }))

  pub chosen_of_both : (last x y : ℕ) → Wins x → Wins y → 0 < surplus phase orders Buy x → 0 < surplus phase orders Sell y
      → ((z : ℕ) → Wins z → 0 < surplus phase orders Buy z → reaches Buy x z ≡ true) → ((z : ℕ) → Wins z → 0 < surplus phase orders Sell z → reaches Sell y z ≡ true)
      → chosen_price phase orders last ≡ kept_between x y last
  chosen_of_both last x y w v some any first second =
      among_both last winners (filter (has_surplus Buy) winners) (filter (has_surplus Sell) winners) x y (a_surplus Buy x w some) (a_surplus Sell y v any)
      ∙ (λ i. kept_between (best_of_surplus Buy x w some first i) (best_of_surplus Sell y v any second i) last)

  pub chosen_of_none : (last x y : ℕ) → Wins x → Wins y → ((side : Side) (z : ℕ) → Wins z → surplus phase orders side z ≡ 0)
      → ((z : ℕ) → Wins z → reaches Buy x z ≡ true) → ((z : ℕ) → Wins z → reaches Sell y z ≡ true) → chosen_price phase orders last ≡ kept_between y x last
  chosen_of_none last x y w v none first second =
      among_none last winners (filter (has_surplus Buy) winners) (filter (has_surplus Sell) winners) (no_surplus Buy (none Buy)) (no_surplus Sell (none Sell))
      ∙ (λ i. kept_between (best_winner Sell y v second i) (best_winner Buy x w first i) last)

  -- ---- its volume
  all_below : (n : ℕ) (cs : List ℕ) → ((y : ℕ) → Contains cs y → volume phase orders y ≤ n) → All (λ y. volume phase orders y ≤ n) cs
  all_below n cs h = All-weaker (Contains cs) (λ y. volume phase orders y ≤ n) (λ y at. h y at) cs (All-contains_itself cs)

  most_of : (cs : List ℕ) → candidates phase orders ≡ cs → (x : ℕ) → Wins x → (z : ℕ) → volume phase orders z ≤ volume phase orders x
  most_of [] e x w z = absurd (Contains-none x (subst (λ (cs : List ℕ). Contains cs x) e w.there))
  most_of (c ∷ cs) e x w z =
      volume_anywhere phase orders (volume phase orders x) c cs e
      (all_below (volume phase orders x) (c ∷ cs) (λ y at. w.greatest y (subst (λ (ps : List ℕ). Contains ps y) (sym e) at))) z

  most : (x : ℕ) → Wins x → (z : ℕ) → volume phase orders z ≤ volume phase orders x
  most x w z = most_of (candidates phase orders) refl x w z

  kept_if : (low high last : ℕ) (a b : Bool) → nat_le last low ≡ a → nat_le high last ≡ b → Wins low → Wins high
      → volume phase orders (if a then low else (if b then high else last)) ≡ volume phase orders low
  kept_if low high last true b e f w v = refl
  kept_if low high last false true e f w v = let g = w.greatest high v.there in let h = v.greatest low w.there in omega (arith, g, h)
  kept_if low high last false false e f w v =
      let h = v.greatest low w.there in
      let under = volume_between phase orders (volume phase orders low) low high last (omega arith) h (above last low e) (above high last f) in
      omega (arith, under, most low w last) where
        above : (m n : ℕ) → nat_le m n ≡ false → n < m
        above m n g = grind (arith, nat_tests)

  pub volume_kept : (low high last : ℕ) → Wins low → Wins high → volume phase orders (kept_between low high last) ≡ volume phase orders low
  volume_kept low high last w v = kept_if low high last (nat_le last low) (nat_le high last) refl refl w v

  executed_if : (cs : List ℕ) → candidates phase orders ≡ cs → (last price x n : ℕ) (b : Bool) → (n == 0) ≡ b → Wins x → volume phase orders x ≡ n → volume phase orders price ≡ n → chosen_price phase orders last ≡ price
      → (if b then None else Some (price, n)) ≡ price_from phase orders last cs
  executed_if [] e last price x n b t w v p c = absurd (Contains-none x (subst (λ (cs : List ℕ). Contains cs x) e w.there))
  executed_if (c ∷ cs) e last price x n true t w v p ch =
      let none : list_all (λ y. volume phase orders y == 0) (c ∷ cs) ≡ true =
      all-from (λ y. volume phase orders y == 0) (c ∷ cs)
      (λ y at. let g = w.greatest y (subst (λ (ps : List ℕ). Contains ps y) (sym e) at) in eq-eqb (volume phase orders y) 0 (omega (arith, g, v, eqb-true n 0 t))) in
      sym (ap (λ (b : Bool). if b then None else with_volume phase orders (chosen_price phase orders last)) none)
  executed_if (c ∷ cs) e last price x n false t w v p ch =
      let some : list_all (λ y. volume phase orders y == 0) (c ∷ cs) ≡ false =
      false_from_ne_true (list_all (λ y. volume phase orders y == 0) (c ∷ cs))
      (λ h. both_ways (n == 0) t (ap (λ (m : ℕ). m == 0) (sym v) ∙ all-says (λ y. volume phase orders y == 0) (c ∷ cs) x h (subst (λ (ps : List ℕ). Contains ps x) e w.there))) in
      sym (ap (λ (b : Bool). if b then None else with_volume phase orders (chosen_price phase orders last)) some
      ∙ ap (λ (q : ℕ). with_volume phase orders q) ch ∙ ap (λ (m : ℕ). let found : ℕ × ℕ = (price, m) in Some found) p)

  pub found_at : (last price x n : ℕ) → Wins x → volume phase orders x ≡ n → volume phase orders price ≡ n → chosen_price phase orders last ≡ price → executed (price, n) ≡ auction_price phase orders last
  found_at last price x n w v p c = executed_if (candidates phase orders) refl last price x n (n == 0) refl w v p c

-- The walk along the curves of a side and of the other.
use Rattle.std.proofs.Common.{◌≡◌, ℕ, ◌+◌, ◌-◌, ◌<◌, ◌≤◌, Bool, true, false, if◌then◌else◌, List, filter, Contains, Option, Some, None, refl, ap, sym, ◌∙◌, subst, arith, ◌⊎◌, inl, inr}
use Rattle.std.specs.Prelude.{IfSome, option_map}
use Rattle.std.proofs.lemmas.Bool.{both_ways, not-true, not-false, not_from_false, false_from_ne_true, leb-true, le-leb}
use Rattle.xm_auction.specs.Covered.{best_covered, covered_at, covers}
use Rattle.xm_auction.specs.Crossings.{IsCrossing, IsAtEnd, IsPassed, IsStart}
use Rattle.xm_auction.specs.Depths.{depth_at, level_reached, reaches_price}
use Rattle.xm_book.specs.Curves.{later, units_to}
use Rattle.xm_auction.specs.declared.covered.Covered.{Covered}
use Rattle.xm_auction.specs.declared.depth.Depth.{Depth}
use Rattle.xm_book.proofs.Bests.{best-is, best-none, reaches-on, reaches-other}
use Rattle.xm_book.proofs.Curves.{Nexts, nexts}
use Rattle.xm_auction.proofs.Curves.{depth-made, limit-made, next-candidate, next-units, next_reaches, of-candidate, opposite-reaches, reached-above, reached-more, unreached-below}
use Rattle.xm_slots.proofs.Members.{Contains-filter, Passes-filter}
use Rattle.xm_rules.specs.Active.{active, limits}
use Rattle.xm_rules.specs.Auction.{accepting, candidates, surplus, volume}
use Rattle.xm_rules.specs.Sides.{opposite, reaches}
use Rattle.xm_rules.specs.declared.orders.Order.{Order}
use Rattle.xm_rules.specs.declared.orders.Side.{Side}
use Rattle.xm_rules.specs.declared.orders.Side.TheVariants.{Buy, Sell}
use Rattle.xm_rules.specs.declared.phases.Phase.{Phase}

level_if : (level : ℕ × ℕ) (found : ℕ × ℕ) (b : Bool) → (if b then Some level else None) ≡ Some found → (Some level ≡ Some found) × (b ≡ true)
level_if level found true e = (e, refl)
level_if level found false e = absurd (cc)

-- a level that is reached comes next
pub is-level : (from : Depth) (next : Option (ℕ × ℕ)) (level : ℕ × ℕ) → level_reached from next ≡ Some level → (next ≡ Some level) × (reaches_price from.side from.limit level.0 ≡ true)
is-level from None level e = absurd (cc)
is-level from (Some first) level e =
    let is = level_if first level (reaches_price from.side from.limit first.0) e in
    let same : first.0 ≡ level.0 = ap (λ (o : Option (ℕ × ℕ)). of o) is.0 in
    (is.0, subst (λ (p : ℕ). reaches_price from.side from.limit p ≡ true) same is.1) where
      of : Option (ℕ × ℕ) → ℕ
      of None = first.0
      of (Some l) = l.0

level_unless : (level : ℕ × ℕ) (b : Bool) → (if b then Some level else None) ≡ None → b ≡ false
level_unless level true e = absurd (cc)
level_unless level false e = refl

pub is-unreached : (from : Depth) (next : Option (ℕ × ℕ)) → level_reached from next ≡ None → IfSome next (λ level. reaches_price from.side from.limit level.0 ≡ false)
is-unreached from None e = tt
is-unreached from (Some level) e = level_unless level (reaches_price from.side from.limit level.0) e

covered_not : (phase : Phase) (orders : List Order) (side : Side) (y : ℕ) → covers phase orders side y ≡ true → accepting phase orders side y < accepting phase orders (opposite side) y → ⊥
covered_not phase orders side y c l = let h = leb-true (accepting phase orders (opposite side) y) (accepting phase orders side y) c in omega (arith, h, l)

none-covered : (phase : Phase) (orders : List Order) (side : Side) → ((y : ℕ) → Contains (candidates phase orders) y → covers phase orders side y ≡ true → ⊥) → None ≡ best_covered phase orders side
none-covered phase orders side none =
    let ps = filter (covers phase orders side) (candidates phase orders) in
    let best = best-none side ps (λ y in_y. let p = Passes-filter (covers phase orders side) (candidates phase orders) y in_y in none y p.contains p.passes) in
    sym (ap (option_map (covered_at phase orders side)) best)

-- ---- the start of the walk
module _ (phase : Phase) (orders : List Order) (first other : Depth) (s : IsStart phase orders first other) where
  start_units : (q : ℕ) → other.limit ≡ Some q → other.units ≡ accepting phase orders (opposite first.side) q
  start_units q e = subst (λ (l : Option ℕ). other.units ≡ units_to phase (opposite first.side) l orders) e (ap (λ (d : Depth). d.units) s.other_depth)

  start_reached : (x : ℕ) → reaches_price (opposite first.side) other.limit x ≡ true → other.units ≤ accepting phase orders (opposite first.side) x
  start_reached x r = let units = ap (λ (d : Depth). d.units) s.other_depth in omega (arith, units, reached-more phase (opposite first.side) other.limit orders x r)

  met_at : (q : ℕ) → other.limit ≡ Some q → other.units ≤ accepting phase orders first.side q
  met_at q e = subst (λ (l : Option ℕ). IfSome l (λ p. other.units ≤ accepting phase orders first.side p)) e s.met

  never_met : (limit : Option ℕ) → other.limit ≡ limit → ((x : ℕ) → accepting phase orders first.side x < other.units) → limit ≡ None
  never_met None e short = refl
  never_met (Some q) e short = absurd (omega (arith, met_at q e, short q))

  pub never-covered : ((x : ℕ) → accepting phase orders first.side x < other.units) → None ≡ best_covered phase orders first.side
  never-covered short =
      let none = never_met other.limit refl short in
      none-covered phase orders first.side
      (λ y at c. covered_not phase orders first.side y c (omega (arith, short y, start_reached y (ap (λ (l : Option ℕ). reaches_price (opposite first.side) l y) none))))

  module _ (own : Depth) (made : own ≡ depth_at phase first.side own.limit orders) (at : IfSome own.limit (Contains (candidates phase orders))) (enough : other.units ≤ own.units)
      (before : (x : ℕ) → reaches_price first.side own.limit x ≡ false → reaches_price first.side first.limit x ≡ true → accepting phase orders first.side x < other.units) where
    inside_not : (q : ℕ) → other.limit ≡ Some q → reaches_price first.side own.limit q ≡ false → (b : Bool) → reaches_price first.side first.limit q ≡ b → ⊥
    inside_not q e r true f = omega (arith, met_at q e, before q r f)
    inside_not q e r false f = omega (arith, met_at q e, start_units q e, s.beyond q f)

    inside_unless : (q : ℕ) → other.limit ≡ Some q → (b : Bool) → reaches_price first.side own.limit q ≡ b → b ≡ true
    inside_unless q e true r = refl
    inside_unless q e false r = absurd (inside_not q e r (reaches_price first.side first.limit q) refl)

    inside_of : (limit : Option ℕ) → other.limit ≡ limit → IfSome limit (λ q. reaches_price first.side own.limit q ≡ true)
    inside_of None e = tt
    inside_of (Some q) e = inside_unless q e (reaches_price first.side own.limit q) refl

    beyond_limit : (limit : Option ℕ) (q x : ℕ) → reaches_price first.side limit q ≡ true → reaches_price first.side limit x ≡ false → reaches first.side x q ≡ true
    beyond_limit None q x i r = absurd (cc)
    beyond_limit (Some p) q x i r = reaches-on first.side x p q (reaches-other first.side p x r) i

    other_reaches : (limit : Option ℕ) (x : ℕ) → IfSome limit (λ q. reaches_price first.side own.limit q ≡ true) → reaches_price first.side own.limit x ≡ false
        → reaches_price (opposite first.side) limit x ≡ true
    other_reaches None x i r = refl
    other_reaches (Some q) x i r = opposite-reaches first.side q x ∙ beyond_limit own.limit q x i r

    beyond_of : (x : ℕ) → reaches_price first.side own.limit x ≡ false → (b : Bool) → reaches_price first.side first.limit x ≡ b
        → accepting phase orders first.side x < accepting phase orders (opposite first.side) x
    beyond_of x r true f = omega (arith, before x r f, start_reached x (other_reaches other.limit x (inside_of other.limit refl) r))
    beyond_of x r false f = s.beyond x f

    pub starts : IsCrossing phase orders own other
    starts =
        let same : own.side ≡ first.side = ap (λ (d : Depth). d.side) made in
        record {
          own_depth = depth-made phase first.side own.limit own orders made;
          other_depth = subst (λ (side : Side). other ≡ depth_at phase (opposite side) other.limit orders) (sym same) s.other_depth;
          own_limit = at;
          other_limit = s.other_limit;
          covered = enough;
          inside = subst (λ (side : Side). IfSome other.limit (λ p. reaches_price side own.limit p ≡ true)) (sym same) (inside_of other.limit refl);
          beyond = subst (λ (side : Side). (x : ℕ) → reaches_price side own.limit x ≡ false → accepting phase orders side x < accepting phase orders (opposite side) x) (sym same)
              (λ x r. beyond_of x r (reaches_price first.side first.limit x) refl);
        }

module _ (phase : Phase) (orders : List Order) (own other : Depth) (k : IsCrossing phase orders own other) where
  other_side : other.side ≡ opposite own.side
  other_side = ap (λ (d : Depth). d.side) k.other_depth

  pub other-made : other ≡ depth_at phase other.side other.limit orders
  other-made = depth-made phase (opposite own.side) other.limit other orders k.other_depth

  other_below : (o : Option (ℕ × ℕ)) → other.next ≡ o → (x : ℕ) → next_reaches (opposite own.side) o x ≡ false → accepting phase orders (opposite own.side) x ≤ other.units
  other_below =
      subst (λ (s : Side). (o : Option (ℕ × ℕ)) → other.next ≡ o → (x : ℕ) → next_reaches s o x ≡ false → accepting phase orders s x ≤ other.units) other_side
      (λ o e x r. unreached-below phase other orders o other-made e x r)

  other_above : (x : ℕ) → reaches_price (opposite own.side) other.limit x ≡ true → other.units ≤ accepting phase orders (opposite own.side) x
  other_above =
      subst (λ (s : Side). (x : ℕ) → reaches_price s other.limit x ≡ true → other.units ≤ accepting phase orders s x) other_side
      (λ x r. reached-above phase other orders other-made x r)

  other_units : (level : ℕ × ℕ) → other.next ≡ Some level → other.units + level.1 ≡ accepting phase orders (opposite own.side) level.0
  other_units =
      subst (λ (s : Side). (level : ℕ × ℕ) → other.next ≡ Some level → other.units + level.1 ≡ accepting phase orders s level.0) other_side
      (λ level e. next-units phase other orders level other-made e)

  other_nexts : (o : Option (ℕ × ℕ)) → other.next ≡ o → Nexts (opposite own.side) other.limit (active phase (opposite own.side) orders) o
  other_nexts o e =
      subst (Nexts (opposite own.side) other.limit (active phase (opposite own.side) orders)) (sym (ap (λ (d : Depth). d.next) k.other_depth) ∙ e)
      (nexts phase (opposite own.side) other.limit orders)

  own_nexts : (o : Option (ℕ × ℕ)) → own.next ≡ o → Nexts own.side own.limit (active phase own.side orders) o
  own_nexts o e =
      subst (Nexts own.side own.limit (active phase own.side orders)) (sym (ap (λ (d : Depth). d.next) k.own_depth) ∙ e) (nexts phase own.side own.limit orders)

  -- ---- a step
  pub advance-other : (level : ℕ × ℕ) → level_reached own other.next ≡ Some level → level.1 ≤ own.units - other.units
      → (e : Depth) → e ≡ depth_at phase other.side (Some level.0) orders → IsCrossing phase orders own e
  advance-other level found fits e made =
      let is = is-level own other.next level found in
      let units : e.units ≡ accepting phase orders other.side level.0 = ap (λ (d : Depth). d.units) made in
      let limit : e.limit ≡ Some level.0 = ap (λ (d : Depth). d.limit) made in
      let here = k.covered in
      record {
        own_depth = k.own_depth;
        other_depth = subst (λ (s : Side). e ≡ depth_at phase s e.limit orders) (ap (λ (d : Depth). d.side) made ∙ other_side) (depth-made phase other.side (Some level.0) e orders made);
        own_limit = k.own_limit;
        other_limit = limit-made phase other.side level.0 e orders (next-candidate phase other orders level other-made is.0) made;
        covered = omega (arith, here, units, next-units phase other orders level other-made is.0, fits);
        inside = subst (λ (l : Option ℕ). IfSome l (λ p. reaches_price own.side own.limit p ≡ true)) (sym limit) is.1;
        beyond = k.beyond;
      }

  behind : (limit : Option ℕ) (p : ℕ) → later (opposite own.side) limit p ≡ true → IfSome limit (λ q. reaches own.side p q ≡ true)
  behind None p l = tt
  behind (Some q) p l =
      sym (opposite-reaches own.side q p) ∙ reaches-other (opposite own.side) p q (not-true (reaches (opposite own.side) p q) l)

  on_to : (limit : Option ℕ) (p q : ℕ) → reaches own.side q p ≡ true → IfSome limit (λ r. reaches own.side p r ≡ true) → IfSome limit (λ r. reaches own.side q r ≡ true)
  on_to None p q h i = tt
  on_to (Some r) p q h i = reaches-on own.side q p r h i

  pub advance-own : (level : ℕ × ℕ) → level_reached own other.next ≡ Some level → own.units - other.units < level.1
      → (next : ℕ × ℕ) → own.next ≡ Some next → reaches own.side next.0 level.0 ≡ true → (e : Depth) → e ≡ depth_at phase own.side (Some next.0) orders → IsCrossing phase orders e other
  advance-own level found short next is_next before e made =
      let is = is-level own other.next level found in
      let here = k.covered in
      let units = next-units phase own orders next k.own_depth is_next in
      subst (λ (d : Depth). IsCrossing phase orders d other) (sym made) (record {
        own_depth = refl;
        other_depth = k.other_depth;
        own_limit = next-candidate phase own orders next k.own_depth is_next;
        other_limit = k.other_limit;
        covered = omega (arith, here, units);
        inside = on_to other.limit level.0 next.0 before (behind other.limit level.0 (other_nexts (Some level) is.0).behind);
        beyond = λ x r.
            let below = unreached-below phase own orders (Some next) k.own_depth is_next x r in
            let above = reached-more phase (opposite own.side) (Some level.0) orders x
            (opposite-reaches own.side level.0 x ∙ reaches-on own.side x next.0 level.0 (reaches-other own.side next.0 x r) before) in
            omega (arith, here, below, above, other_units level is.0, short);
      })

  -- ---- the end of the walk
  own_below : (o : Option (ℕ × ℕ)) → own.next ≡ o → (x : ℕ) → next_reaches own.side o x ≡ false → accepting phase orders own.side x ≤ own.units
  own_below o e x r = unreached-below phase own orders o k.own_depth e x r

  own_above : (x : ℕ) → reaches_price own.side own.limit x ≡ true → own.units ≤ accepting phase orders own.side x
  own_above x r = reached-above phase own orders k.own_depth x r

  -- the other side's limit reaches what the own one reaches, where that is one of its own
  limit_reaches : (limit : Option ℕ) (x : ℕ) → IfSome limit (λ q. reaches own.side x q ≡ true) → reaches_price (opposite own.side) limit x ≡ true
  limit_reaches None x h = refl
  limit_reaches (Some q) x h = opposite-reaches own.side q x ∙ h

  unreached_next : (next : Option (ℕ × ℕ)) (x : ℕ) → IfSome next (λ level. reaches own.side x level.0 ≡ false) → next_reaches (opposite own.side) next x ≡ false
  unreached_next None x h = refl
  unreached_next (Some level) x h = opposite-reaches own.side level.0 x ∙ h

  covers_not : (y : ℕ) → covers phase orders own.side y ≡ true → accepting phase orders own.side y < accepting phase orders (opposite own.side) y → ⊥
  covers_not y c l = covered_not phase orders own.side y c l

  -- a candidate that is covered, and better than each other one
  made_of : (s : Side) (x a b : ℕ) → a ≤ b → accepting phase orders s x ≡ b → accepting phase orders (opposite s) x ≡ a
      → covered_at phase orders s x ≡ record { price = x; volume = a; surplus = b - a }
  made_of Buy x a b l e f =
      let v : volume phase orders x ≡ a = omega (arith, l, e, f) in
      let s : surplus phase orders Buy x ≡ b - a = rw (e, f) refl in
      (λ i. record { price = x; volume = v i; surplus = s i })
  made_of Sell x a b l e f =
      let v : volume phase orders x ≡ a = omega (arith, l, e, f) in
      let s : surplus phase orders Sell x ≡ b - a = rw (e, f) refl in
      (λ i. record { price = x; volume = v i; surplus = s i })

  is_best : (x a b : ℕ) → Contains (candidates phase orders) x → a ≤ b → accepting phase orders own.side x ≡ b → accepting phase orders (opposite own.side) x ≡ a
      → ((y : ℕ) → Contains (candidates phase orders) y → covers phase orders own.side y ≡ true → reaches own.side x y ≡ true)
      → Some (record { price = x; volume = a; surplus = b - a }) ≡ best_covered phase orders own.side
  is_best x a b at l e f first =
      let ps = filter (covers phase orders own.side) (candidates phase orders) in
      let cover : covers phase orders own.side x ≡ true = rw (e, f) (le-leb a b l) in
      let best = best-is own.side ps x (record {
        there = Contains-filter (covers phase orders own.side) (candidates phase orders) x cover at;
        reaches_all = λ y in_y. let p = Passes-filter (covers phase orders own.side) (candidates phase orders) y in_y in first y p.contains p.passes;
      }) in
      ap (λ (c : Covered). Some c) (sym (made_of own.side x a b l e f)) ∙ sym (ap (option_map (covered_at phase orders own.side)) best)

  -- what is covered is no better than the own limit
  not_beyond : (y : ℕ) → covers phase orders own.side y ≡ true → reaches_price own.side own.limit y ≡ true
  not_beyond y c = by_test (reaches_price own.side own.limit y) refl where
    by_test : (b : Bool) → reaches_price own.side own.limit y ≡ b → b ≡ true
    by_test true e = refl
    by_test false e = absurd (covers_not y c (k.beyond y e))

  -- where no level crosses, the best is the limit
  pub best-at_limit : (p : ℕ) → level_reached own other.next ≡ None → own.limit ≡ Some p
      → Some (record { price = p; volume = other.units; surplus = own.units - other.units }) ≡ best_covered phase orders own.side
  best-at_limit p none limit =
      let at : Contains (candidates phase orders) p = subst (λ (l : Option ℕ). IfSome l (Contains (candidates phase orders))) limit k.own_limit in
      let inside : IfSome other.limit (λ q. reaches own.side p q ≡ true) =
      subst (λ (l : Option ℕ). IfSome other.limit (λ q. reaches_price own.side l q ≡ true)) limit k.inside in
      let unreached : IfSome other.next (λ level. reaches own.side p level.0 ≡ false) =
      subst (λ (l : Option ℕ). IfSome other.next (λ level. reaches_price own.side l level.0 ≡ false)) limit (is-unreached own other.next none) in
      let below = other_below other.next refl p (unreached_next other.next p unreached) in
      let above = other_above p (limit_reaches other.limit p inside) in
      let units : own.units ≡ accepting phase orders own.side p =
      subst (λ (l : Option ℕ). own.units ≡ units_to phase own.side l orders) limit (ap (λ (d : Depth). d.units) k.own_depth) in
      is_best p other.units own.units at k.covered (sym units) (omega (arith, below, above))
      (λ y in_y c. subst (λ (l : Option ℕ). reaches_price own.side l y ≡ true) limit (not_beyond y c))

  -- a limit of the other side, where there is one, is as good as a price
  abbrev pub limit_passes : Option ℕ → ℕ → Bool
  limit_passes None y = false
  limit_passes (Some q) y = reaches own.side q y

  -- what a price is no better than, once the curves were walked and the best is no longer the limit
  pub record Walked : Type 0 where
    pub own_first : (y : ℕ) → covers phase orders own.side y ≡ true → Contains (limits (active phase own.side orders)) y → next_reaches own.side own.next y ≡ true
    pub other_first : (y : ℕ) → covers phase orders own.side y ≡ true → Contains (limits (active phase (opposite own.side) orders)) y → limit_passes other.limit y ≡ true
    pub next_below : IfSome own.next (λ next. next_reaches (opposite own.side) other.next next.0 ≡ false)

  own_first_of : (o : Option (ℕ × ℕ)) → own.next ≡ o → (y : ℕ) → later own.side own.limit y ≡ true → Contains (limits (active phase own.side orders)) y → next_reaches own.side o y ≡ true
  own_first_of None e y l at = absurd (own_nexts None e y at l)
  own_first_of (Some next) e y l at = (own_nexts (Some next) e).first y at l

  other_first_of : (o : Option (ℕ × ℕ)) → other.next ≡ o → (y : ℕ) → Contains (limits (active phase (opposite own.side) orders)) y → IfSome o (λ level. reaches own.side y level.0 ≡ false)
      → later (opposite own.side) other.limit y ≡ false
  other_first_of None e y at h = false_from_ne_true (later (opposite own.side) other.limit y) (λ l. other_nexts None e y at l)
  other_first_of (Some level) e y at h =
      false_from_ne_true (later (opposite own.side) other.limit y)
      (λ l. both_ways (reaches own.side y level.0) h (sym (opposite-reaches own.side level.0 y) ∙ (other_nexts (Some level) e).first y at l))

  passes_of : (limit : Option ℕ) (y : ℕ) → later (opposite own.side) limit y ≡ false → limit_passes limit y ≡ true
  passes_of None y h = absurd (cc)
  passes_of (Some q) y h = sym (opposite-reaches own.side y q) ∙ not-false (reaches (opposite own.side) y q) h

  next_not : (o : Option (ℕ × ℕ)) (p y : ℕ) → reaches own.side y p ≡ true → IfSome o (λ next. reaches own.side next.0 p ≡ false) → next_reaches own.side o y ≡ false
  next_not None p y h i = refl
  next_not (Some next) p y h i = false_from_ne_true (reaches own.side next.0 y) (λ e. both_ways (reaches own.side next.0 p) i (reaches-on own.side next.0 y p e h))

  module _ (level : ℕ × ℕ) (found : level_reached own other.next ≡ Some level) (short : own.units < other.units + level.1)
      (none_before : IfSome own.next (λ next. reaches own.side next.0 level.0 ≡ false)) where
    stays : (y : ℕ) → covers phase orders own.side y ≡ true → reaches own.side y level.0 ≡ false
    stays y c =
        false_from_ne_true (reaches own.side y level.0)
        (λ e. covers_not y c (
        let below = own_below own.next refl y (next_not own.next level.0 y e none_before) in
        let above = reached-more phase (opposite own.side) (Some level.0) orders y (opposite-reaches own.side level.0 y ∙ e) in
        omega (arith, short, below, above, other_units level (is-level own other.next level found).0)))

    later_than : (limit : Option ℕ) (y : ℕ) → reaches own.side y level.0 ≡ false → reaches_price own.side limit level.0 ≡ true → later own.side limit y ≡ true
    later_than None y h r = refl
    later_than (Some p) y h r =
        not_from_false (reaches own.side y p) (false_from_ne_true (reaches own.side y p) (λ e. both_ways (reaches own.side y level.0) h (reaches-on own.side y p level.0 e r)))

    below_next : (o : Option (ℕ × ℕ)) → IfSome o (λ next. reaches own.side next.0 level.0 ≡ false) → IfSome o (λ next. next_reaches (opposite own.side) (Some level) next.0 ≡ false)
    below_next None h = tt
    below_next (Some next) h = opposite-reaches own.side level.0 next.0 ∙ h

    walked_at : Walked
    walked_at =
        let is = is-level own other.next level found in
        record {
          own_first = λ y c at. own_first_of own.next refl y (later_than own.limit y (stays y c) is.1) at;
          other_first = λ y c at. passes_of other.limit y (other_first_of (Some level) is.0 y at (stays y c));
          next_below = subst (λ (o : Option (ℕ × ℕ)). IfSome own.next (λ next. next_reaches (opposite own.side) o next.0 ≡ false)) (sym is.0) (below_next own.next none_before);
        }

  none_left : (o : Option (ℕ × ℕ)) → own.limit ≡ None → IfSome o (λ level. reaches_price own.side own.limit level.0 ≡ false) → o ≡ None
  none_left None none h = refl
  none_left (Some level) none h = absurd (both_ways (reaches_price own.side own.limit level.0) h (ap (λ (l : Option ℕ). reaches_price own.side l level.0) none))

  next_none : (o : Option (ℕ × ℕ)) → IfSome o (λ next. next_reaches (opposite own.side) None next.0 ≡ false)
  next_none None = tt
  next_none (Some next) = refl

  walked_by : (o : Option (ℕ × ℕ)) → level_reached own other.next ≡ o
      → IfSome o (λ level. (own.units < other.units + level.1) × IfSome own.next (λ next. reaches own.side next.0 level.0 ≡ false)) → (o ≡ None → own.limit ≡ None) → Walked
  walked_by (Some level) found last passed = walked_at level found last.0 last.1
  walked_by None found last passed =
      let none = passed refl in
      let no_level : other.next ≡ None = none_left other.next none (is-unreached own other.next found) in
      record {
        own_first = λ y c at. own_first_of own.next refl y (ap (λ (l : Option ℕ). later own.side l y) none) at;
        other_first = λ y c at. passes_of other.limit y (other_first_of None no_level y at tt);
        next_below = subst (λ (o : Option (ℕ × ℕ)). IfSome own.next (λ next. next_reaches (opposite own.side) o next.0 ≡ false)) (sym no_level) (next_none own.next);
      }

  pub walked : IsAtEnd own other → IsPassed own other → Walked
  walked last passed = walked_by (level_reached own other.next) refl last passed

  reached_other : (p : ℕ) → reaches_price other.side other.limit p ≡ true → reaches_price (opposite own.side) other.limit p ≡ true
  reached_other p h = subst (λ (s : Side). reaches_price s other.limit p ≡ true) other_side h

  -- a price that the other side's limit reaches passes what that limit passes
  pass_on : (limit : Option ℕ) (p y : ℕ) → reaches_price (opposite own.side) limit p ≡ true → limit_passes limit y ≡ true → reaches own.side p y ≡ true
  pass_on None p y r h = absurd (cc)
  pass_on (Some q) p y r h = reaches-on own.side p q y (sym (opposite-reaches own.side q p) ∙ r) h

  either_first : {A B C : Type 0} → A ⊎ B → (A → C) → (B → C) → C
  either_first (inl a) f h = f a
  either_first (inr b) f h = h b

  pub next-covers : (next : ℕ × ℕ) → level_reached other own.next ≡ Some next → (e : Depth) → e ≡ depth_at phase own.side (Some next.0) orders → other.units ≤ e.units
  next-covers next found e made =
      let here = k.covered in
      let units = ap (λ (d : Depth). d.units) made in
      omega (arith, here, units, next-units phase own orders next k.own_depth (is-level other own.next next found).0)

  pub best-next : Walked → (next : ℕ × ℕ) → level_reached other own.next ≡ Some next → (e : Depth) → e ≡ depth_at phase own.side (Some next.0) orders
      → Some (record { price = next.0; volume = other.units; surplus = e.units - other.units }) ≡ best_covered phase orders own.side
  best-next w next found e made =
      let is = is-level other own.next next found in
      let units : e.units ≡ accepting phase orders own.side next.0 = ap (λ (d : Depth). d.units) made in
      let unreached : next_reaches (opposite own.side) other.next next.0 ≡ false =
      subst (λ (o : Option (ℕ × ℕ)). IfSome o (λ next. next_reaches (opposite own.side) other.next next.0 ≡ false)) is.0 w.next_below in
      let within = reached_other next.0 is.1 in
      let below = other_below other.next refl next.0 unreached in
      let above = other_above next.0 within in
      is_best next.0 other.units e.units (next-candidate phase own orders next k.own_depth is.0) (next-covers next found e made) (sym units) (omega (arith, below, above))
      (λ y in_y c. either_first (of-candidate phase orders own.side y in_y)
      (λ at. subst (λ (o : Option (ℕ × ℕ)). next_reaches own.side o y ≡ true) is.0 (w.own_first y c at))
      (λ at. pass_on other.limit next.0 y within (w.other_first y c at)))

  unreached_at : (p : ℕ) (o : Option (ℕ × ℕ)) → IfSome o (λ next. reaches_price (opposite own.side) (Some p) next.0 ≡ false) → next_reaches own.side o p ≡ false
  unreached_at p None h = refl
  unreached_at p (Some next) h = sym (opposite-reaches own.side p next.0) ∙ h

  pass_next : (p y : ℕ) (o : Option (ℕ × ℕ)) → next_reaches own.side o p ≡ false → next_reaches own.side o y ≡ true → reaches own.side p y ≡ true
  pass_next p y None h i = absurd (cc)
  pass_next p y (Some next) h i = reaches-on own.side p next.0 y (reaches-other own.side next.0 p h) i

  unreached_other : level_reached other own.next ≡ None → IfSome own.next (λ next. reaches_price (opposite own.side) other.limit next.0 ≡ false)
  unreached_other none =
      subst (λ (s : Side). IfSome own.next (λ next. reaches_price s other.limit next.0 ≡ false)) other_side (is-unreached other own.next none)

  pub best-limit : Walked → (p : ℕ) → level_reached other own.next ≡ None → other.limit ≡ Some p
      → Some (record { price = p; volume = other.units; surplus = own.units - other.units }) ≡ best_covered phase orders own.side
  best-limit w p none limit =
      let at : Contains (candidates phase orders) p = subst (λ (l : Option ℕ). IfSome l (Contains (candidates phase orders))) limit k.other_limit in
      let inside : reaches_price own.side own.limit p ≡ true = subst (λ (l : Option ℕ). IfSome l (λ q. reaches_price own.side own.limit q ≡ true)) limit k.inside in
      let unreached : next_reaches own.side own.next p ≡ false =
      unreached_at p own.next (subst (λ (l : Option ℕ). IfSome own.next (λ next. reaches_price (opposite own.side) l next.0 ≡ false)) limit (unreached_other none)) in
      let below = own_below own.next refl p unreached in
      let above = own_above p inside in
      let units : other.units ≡ accepting phase orders (opposite own.side) p =
      subst (λ (l : Option ℕ). other.units ≡ units_to phase (opposite own.side) l orders) limit (ap (λ (d : Depth). d.units) k.other_depth) in
      is_best p other.units own.units at k.covered (omega (arith, below, above)) (sym units)
      (λ y in_y c. either_first (of-candidate phase orders own.side y in_y)
      (λ own_y. pass_next p y own.next unreached (w.own_first y c own_y))
      (λ other_y. subst (λ (l : Option ℕ). limit_passes l y ≡ true) limit (w.other_first y c other_y)))

  no_next : (o : Option (ℕ × ℕ)) (y : ℕ) → IfSome o (λ next. reaches_price (opposite own.side) None next.0 ≡ false) → next_reaches own.side o y ≡ true → ⊥
  no_next None y h i = cc
  no_next (Some next) y h i = cc

  pub best-nowhere : Walked → level_reached other own.next ≡ None → other.limit ≡ None → None ≡ best_covered phase orders own.side
  best-nowhere w none limit =
      none-covered phase orders own.side (λ y in_y c. either_first (of-candidate phase orders own.side y in_y)
      (λ own_y. no_next own.next y (subst (λ (l : Option ℕ). IfSome own.next (λ next. reaches_price (opposite own.side) l next.0 ≡ false)) limit (unreached_other none)) (w.own_first y c own_y))
      (λ other_y. both_ways (limit_passes None y) refl (subst (λ (l : Option ℕ). limit_passes l y ≡ true) limit (w.other_first y c other_y))))

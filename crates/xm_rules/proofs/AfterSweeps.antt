-- After an order came in no two orders of the two sides meet, where none met before and trading isn't interrupted.
use Rattle.std.proofs.Common.{◌≡◌, ℕ, ◌+◌, ◌-◌, ◌<◌, ◌≤◌, zero, suc, min, Bool, true, false, not, ◌&&◌, ◌||◌, if◌then◌else◌, List, [], ◌∷◌, filter, All, Contains, sum_by, refl, sym, ap, ◌∙◌, arith, lt_of_not-le}
use Rattle.std.specs.List.{list_all, list_any}
use Rattle.std.specs.Prelude.{nat_lt}
use Rattle.std.proofs.lemmas.Bool.{and_from, and_parts, both_ways, false_from_ne_true, lt-ltb, or_parts}
use Rattle.std.proofs.lemmas.List.Elements.{All-nil, All-cons, All-contains, All-contains_itself, All-filter, All-weaker, filter_passes}
use Rattle.std.proofs.lemmas.List.Sums.{AllPass-from_list_all, list_all-from_AllPass}
use Rattle.xm_rules.specs.Active.{Positioned, is_active_on}
use Rattle.xm_rules.specs.Orders.{meets}
use Rattle.xm_rules.specs.Priority.{before, is_ahead}
use Rattle.xm_rules.specs.Sides.{opposite}
use Rattle.xm_rules.specs.Sweep.{Sweep, ahead_of, fill, filled, interrupts_at, is_executable, is_interrupted, is_met, is_met_inside, other_side, queue, rest_after, units_before}
use Rattle.xm_rules.specs.declared.orders.OrderKind.{OrderKind}
use Rattle.xm_rules.specs.declared.orders.OrderKind.TheVariants.{Market, Limit}
use Rattle.xm_rules.specs.declared.orders.Side.{Side}
use Rattle.xm_rules.specs.declared.orders.Side.TheVariants.{Buy, Sell}
use Rattle.xm_rules.specs.declared.phases.Phase.TheVariants.{Continuous}
use Rattle.xm_rules.proofs.Ahead.{ahead_on, not_ahead_of_itself, precedes}
use Rattle.xm_rules.proofs.Allotments.{kinds_accept}
use Rattle.xm_rules.proofs.Orderings.{sum-filter}
use Rattle.xm_rules.proofs.Positions.{rising_active, rising_kept}
use Rattle.xm_rules.proofs.Queues.{apart, if_gap, if_le, units, within_those}
use Rattle.xm_rules.proofs.Remaining.{is_on_side, passing_kept}
use Rattle.xm_rules.proofs.Sums.{sum-gap, sum-le, sum-same}
use Rattle.xm_rules.proofs.Units.{owned, owned_all}

-- ---- meeting

pub meets_mirrored : (side : Side) (k l : OrderKind) → meets (opposite side) l k ≡ meets side k l
meets_mirrored Buy Market Market = refl
meets_mirrored Buy Market (Limit q) = refl
meets_mirrored Buy (Limit p) Market = refl
meets_mirrored Buy (Limit p) (Limit q) = refl
meets_mirrored Sell Market Market = refl
meets_mirrored Sell Market (Limit q) = refl
meets_mirrored Sell (Limit p) Market = refl
meets_mirrored Sell (Limit p) (Limit q) = refl

-- what is ahead of an order that is met is met
pub kinds_met : (side : Side) (o k : OrderKind) (m : ℕ) (l : OrderKind) (n : ℕ) → precedes (opposite side) k m l n ≡ true → meets side o l ≡ true → meets side o k ≡ true
kinds_met side o Market m l n h e = refl
kinds_met side Market (Limit p) m l n h e = refl
kinds_met side (Limit r) (Limit p) m Market n h e = absurd (cc)
kinds_met Buy (Limit r) (Limit p) m (Limit q) n h e = kinds_accept Sell (Limit p) m (Limit q) n r h e
kinds_met Sell (Limit r) (Limit p) m (Limit q) n h e = kinds_accept Buy (Limit p) m (Limit q) n r h e

-- ---- the orders that the sweep may execute

-- where none passes a test, each fails it
none_passes : {X : Type 0} (p : X → Bool) (xs : List X) → list_any p xs ≡ false → All (λ x. p x ≡ false) xs
none_passes p [] h = All-nil (λ x. p x ≡ false)
none_passes p (x ∷ xs) h =
    let parts = or_parts (p x) (list_any p xs) h in
    All-cons (λ y. p y ≡ false) x xs parts.0 (none_passes p xs parts.1)

or_second : (a b : Bool) → (a ≡ true → b ≡ true) → (a || b) ≡ b
or_second true b h = sym (h refl)
or_second false b h = refl

module _ (w : Sweep) where
  abbrev side : Side
  side = other_side w

  in_ahead : (x i : Positioned) → Contains (queue w) x → is_ahead side x i ≡ true → Contains (ahead_of w i) x
  in_ahead x i at h =
      All-contains (λ (j : Positioned). is_ahead side j i ≡ true → Contains (ahead_of w i) j) (queue w) x (passing_kept (λ (j : Positioned). is_ahead side j i) (queue w)) at h

  -- what holds of each order of the queue that is ahead of one
  all_ahead : (p : Positioned → Bool) (i : Positioned) → ((x : Positioned) → Contains (queue w) x → is_ahead side x i ≡ true → p x ≡ true) → list_all p (ahead_of w i) ≡ true
  all_ahead p i h =
      let ahead = λ (j : Positioned). is_ahead side j i in
      let queued = All-filter ahead (Contains (queue w)) (queue w) (All-contains_itself (queue w)) in
      let passed = filter_passes ahead (queue w) in
      list_all-from_AllPass p (ahead_of w i) (λ k d l. h _ (queued k d l) (passed k d l))

  one_ahead : (p : Positioned → Bool) (i x : Positioned) → list_all p (ahead_of w i) ≡ true → Contains (queue w) x → is_ahead side x i ≡ true → p x ≡ true
  one_ahead p i x all at h =
      All-contains (λ (j : Positioned). p j ≡ true) (ahead_of w i) x (AllPass-from_list_all p (ahead_of w i) all) (in_ahead x i at h)

  -- each order ahead of one that may be executed may be executed
  executable_ahead : (i x : Positioned) → is_executable w i ≡ true → Contains (queue w) x → is_ahead side x i ≡ true → is_executable w x ≡ true
  executable_ahead i x e at h =
      let inside = (and_parts (is_met_inside w i) (list_all (is_met_inside w) (ahead_of w i)) e).1 in
      and_from (is_met_inside w x) (list_all (is_met_inside w) (ahead_of w x)) (one_ahead (is_met_inside w) i x inside at h)
      (all_ahead (is_met_inside w) x (λ y to g. one_ahead (is_met_inside w) i y inside to (ahead_on side y x i g h)))

  -- the units that may be executed
  abbrev executable_units : ℕ
  executable_units = sum_by (λ (i : Positioned). if is_executable w i then units i else 0) (queue w)

  -- those of an order that may be executed and of the orders ahead of it are among them
  within_executable : (i : Positioned) → Contains (queue w) i → is_executable w i ≡ true → units_before w i + units i ≤ executable_units
  within_executable i at e =
      let passes = λ (x : Positioned). is_ahead side x i || is_executable w x in
      let within = within_those side passes (queue w) i (λ x h. ap (λ (b : Bool). b || is_executable w x) h) (or_second (is_ahead side i i) (is_executable w i) (λ h. e) ∙ e) at in
      let same : sum_by (λ (x : Positioned). if passes x then units x else 0) (queue w) ≡ executable_units =
      sum-same (λ (x : Positioned). if passes x then units x else 0) (λ (x : Positioned). if is_executable w x then units x else 0) (queue w)
      (All-weaker (Contains (queue w)) (λ (x : Positioned). ◌≡◌ {A = ℕ} (if passes x then units x else 0) (if is_executable w x then units x else 0))
      (λ x to. ap (λ (b : Bool). if b then units x else 0) (or_second (is_ahead side x i) (is_executable w x) (executable_ahead i x e to))) (queue w) (All-contains_itself (queue w))) in
      omega arith

  -- where they suffice, nothing rests of the incoming order
  executed_whole : w.incoming.rest ≤ executable_units → rest_after w ≡ 0
  executed_whole enough =
      let those = filter (is_executable w) (queue w) in
      let queued : All (Contains (queue w)) those = All-filter (is_executable w) (Contains (queue w)) (queue w) (All-contains_itself (queue w)) in
      let passes = filter_passes (is_executable w) (queue w) in
      let row : sum_by (owned (before side (queue w)) units w.incoming.rest) those ≡ w.incoming.rest =
      owned_all (before side (queue w)) units those
      (apart side (queue w) those queued (rising_kept (is_executable w) (queue w) (rising_active Continuous side w.orders))) executable_units
      (λ k d l. within_executable _ (queued k d l) (passes k d l)) (sum-filter units (is_executable w) (queue w)) w.incoming.rest enough in
      let sums : sum_by (owned (before side (queue w)) units w.incoming.rest) those ≡ filled w =
      sum-filter (owned (before side (queue w)) units w.incoming.rest) (is_executable w) (queue w) in
      omega arith

  -- ---- what is left after a sweep that isn't interrupted and leaves a rest of the incoming order

  module _ (some : 0 < rest_after w) (goes_on : is_interrupted w ≡ false) where
    few : executable_units < w.incoming.rest
    few = lt_of_not-le (λ enough. let none = executed_whole enough in omega arith)

    -- the number of orders ahead of one
    abbrev place : Positioned → ℕ
    place i = sum_by (λ (x : Positioned). if is_ahead side x i then 1 else 0) (queue w)

    earlier : (x i : Positioned) → Contains (queue w) x → is_ahead side x i ≡ true → place x < place i
    earlier x i at h =
        let more = sum-gap (λ (y : Positioned). if is_ahead side y x then 1 else 0) (λ (y : Positioned). if is_ahead side y i then 1 else 0) 1
        (λ y. if_le (is_ahead side y x) (is_ahead side y i) 1 (λ e. ahead_on side y x i e h)) (queue w) x
        (if_gap (is_ahead side x x) (is_ahead side x i) 1 (not_ahead_of_itself side x) h) at.0 at.1 at.2 in
        omega arith

    met_ahead : (x i : Positioned) → Contains (queue w) x → is_ahead side x i ≡ true → is_met w i ≡ true → is_met w x ≡ true
    met_ahead x i at h e =
        and_from (is_active_on Continuous side x) (meets w.incoming.side w.incoming.kind x.order.kind) (is_on_side Continuous side w.orders x at)
        (kinds_met w.incoming.side w.incoming.kind x.order.kind x.position i.order.kind i.position h
        (and_parts (is_active_on Continuous side i) (meets w.incoming.side w.incoming.kind i.order.kind) e).1)

    module _ (i : Positioned) (at : Contains (queue w) i) (met : is_met w i ≡ true)
        (ahead : (x : Positioned) → Contains (queue w) x → is_ahead side x i ≡ true → is_executable w x ≡ true) where
      reached : units_before w i < w.incoming.rest
      reached =
          let within = sum-le (λ (x : Positioned). if is_ahead side x i then units x else 0) (λ (x : Positioned). if is_executable w x then units x else 0) (queue w)
          (All-weaker (Contains (queue w)) (λ (x : Positioned). (if is_ahead side x i then units x else 0) ≤ (if is_executable w x then units x else 0))
          (λ x to. if_le (is_ahead side x i) (is_executable w x) (units x) (ahead x to)) (queue w) (All-contains_itself (queue w))) in
          omega (arith, few)

      interrupts_if : (b : Bool) → is_executable w i ≡ b → is_executable w i ≡ true
      interrupts_if true e = e
      interrupts_if false e =
          absurd (both_ways (interrupts_at w i) (All-contains (λ (x : Positioned). interrupts_at w x ≡ false) (queue w) i (none_passes (interrupts_at w) (queue w) goes_on) at)
          (and_from (is_met w i && not (is_executable w i)) (list_all (is_executable w) (ahead_of w i) && nat_lt (units_before w i) w.incoming.rest)
          (and_from (is_met w i) (not (is_executable w i)) met (ap not e))
          (and_from (list_all (is_executable w) (ahead_of w i)) (nat_lt (units_before w i) w.incoming.rest) (all_ahead (is_executable w) i ahead)
          (lt-ltb (units_before w i) w.incoming.rest reached))))

    -- each order that is met may be executed: the first of those that may not would interrupt trading
    met_executed : (n : ℕ) (i : Positioned) → place i < n → Contains (queue w) i → is_met w i ≡ true → is_executable w i ≡ true
    met_executed zero i l at e = absurd (omega arith)
    met_executed (suc n) i l at e =
        interrupts_if i at e (λ x to h. met_executed n x (let less = earlier x i to h in omega arith) to (met_ahead x i to h e)) (is_executable w i) refl

    -- no order that is left meets it
    pub left_unmet : (i : Positioned) → Contains (queue w) i → fill w i < units i → is_met w i ≡ false
    left_unmet i at l =
        false_from_ne_true (is_met w i)
        (λ e. let may = met_executed (suc (place i)) i (omega arith) at e in
        let within = within_executable i at may in
        let filled_of : fill w i ≡ min (units i) (w.incoming.rest - units_before w i) = ap (λ (b : Bool). if b then min (units i) (w.incoming.rest - units_before w i) else 0) may in
        omega (arith, few))

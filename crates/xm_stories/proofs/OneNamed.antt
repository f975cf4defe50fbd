-- What has a name in a lawful journal: one order, or one stop, at most.
use Rattle.std.proofs.Common.{◌≡◌, ℕ, ◌+◌, ◌≤◌, Bool, true, false, cond, if◌then◌else◌, List, [], ◌∷◌, filter, find, sum_by, Option, Some, None, refl, ap, ◌∙◌, arith}
use Rattle.std.specs.Option.{option_to_list}
use Rattle.std.proofs.lemmas.List.Sums.{sum_by-cons}
use Rattle.xm_desk.specs.Shown.{units_left, units_of_either}
use Rattle.xm_events.specs.Life.{units_named}
use Rattle.xm_rules.proofs.OneName.{step-uses, uses}
use Rattle.xm_rules.proofs.Opening.{opening-uses}
use Rattle.xm_rules.proofs.Replays.{lawful-has}
use Rattle.xm_rules.specs.Orders.{is_named, is_stop_named}
use Rattle.xm_rules.specs.State.{State}
use Rattle.xm_rules.specs.Step.{Journal, is_lawful, replay}
use Rattle.xm_rules.specs.declared.orders.Order.{Order}
use Rattle.xm_rules.specs.declared.orders.Stop.{Stop}

pub used-once : (member reference : ℕ) (j : Journal) → is_lawful j ≡ true → uses member reference (replay j) ≤ 1
used-once member reference j lawful =
    lawful-has (λ (s : State). uses member reference s ≤ 1) (λ s c accepted once. step-uses member reference s c accepted once) j lawful (λ carriable. opening-uses j.settings member reference carriable)

module _ {X : Type 0} (p : X → Bool) (units_of : X → ℕ) where
  abbrev counted : X → ℕ
  counted x = cond (p x) 1 0

  abbrev units : X → ℕ
  units x = if p x then units_of x else 0

  abbrev units_found : Option X → ℕ
  units_found None = 0
  units_found (Some x) = units_of x

  none-kept : (xs : List X) → sum_by counted xs ≤ 0 → filter p xs ≡ []
  none-kept [] l = refl
  none-kept (x ∷ xs) l = by (p x) (omega (arith, l, sum_by-cons counted x xs)) (none-kept xs)
    where
      by : (b : Bool) → cond b 1 0 + sum_by counted xs ≤ 0 → (sum_by counted xs ≤ 0 → filter p xs ≡ []) → (if b then x ∷ filter p xs else filter p xs) ≡ []
      by true l rest = absurd (omega (arith, l))
      by false l rest = rest (omega (arith, l))

  pub once-kept : (xs : List X) → sum_by counted xs ≤ 1 → filter p xs ≡ option_to_list (find p xs)
  once-kept [] l = refl
  once-kept (x ∷ xs) l = by (p x) (omega (arith, l, sum_by-cons counted x xs)) (none-kept xs) (once-kept xs)
    where
      by : (b : Bool) → cond b 1 0 + sum_by counted xs ≤ 1 → (sum_by counted xs ≤ 0 → filter p xs ≡ []) → (sum_by counted xs ≤ 1 → filter p xs ≡ option_to_list (find p xs))
          → (if b then x ∷ filter p xs else filter p xs) ≡ option_to_list (cond b (Some x) (find p xs))
      by true l none once = ap (λ (ys : List X). x ∷ ys) (none (omega (arith, l)))
      by false l none once = once (omega (arith, l))

  none-has : (xs : List X) → sum_by counted xs ≤ 0 → sum_by units xs ≡ 0
  none-has [] l = refl
  none-has (x ∷ xs) l = sum_by-cons units x xs ∙ by (p x) (omega (arith, l, sum_by-cons counted x xs)) (none-has xs)
    where
      by : (b : Bool) → cond b 1 0 + sum_by counted xs ≤ 0 → (sum_by counted xs ≤ 0 → sum_by units xs ≡ 0) → (if b then units_of x else 0) + sum_by units xs ≡ 0
      by true l rest = absurd (omega (arith, l))
      by false l rest = (let zero = rest (omega (arith, l)) in omega (arith, zero))

  once-has : (xs : List X) → sum_by counted xs ≤ 1 → sum_by units xs ≡ units_found (find p xs)
  once-has [] l = refl
  once-has (x ∷ xs) l = sum_by-cons units x xs ∙ by (p x) (omega (arith, l, sum_by-cons counted x xs)) (none-has xs) (once-has xs)
    where
      by : (b : Bool) → cond b 1 0 + sum_by counted xs ≤ 1 → (sum_by counted xs ≤ 0 → sum_by units xs ≡ 0) → (sum_by counted xs ≤ 1 → sum_by units xs ≡ units_found (find p xs))
          → (if b then units_of x else 0) + sum_by units xs ≡ units_found (cond b (Some x) (find p xs))
      by true l none once = (let zero = none (omega (arith, l)) in omega (arith, zero))
      by false l none once = (let same = once (omega (arith, l)) in omega (arith, same))

  found-counts : (xs : List X) (x : X) → find p xs ≡ Some x → 1 ≤ sum_by counted xs
  found-counts [] x is = absurd (cc)
  found-counts (y ∷ ys) x is = by (p y) is (found-counts ys x) (sum_by-cons counted y ys)
    where
      by : (b : Bool) → cond b (Some y) (find p ys) ≡ Some x → (find p ys ≡ Some x → 1 ≤ sum_by counted ys) → sum_by counted (y ∷ ys) ≡ cond b 1 0 + sum_by counted ys → 1 ≤ sum_by counted (y ∷ ys)
      by true is rest sum = omega (arith, sum)
      by false is rest sum = (let more = rest is in omega (arith, sum, more))

module _ (member reference : ℕ) (s : State) (once : uses member reference s ≤ 1) where
  abbrev of_order : Order → ℕ
  of_order o = o.rest

  abbrev of_stop : Stop → ℕ
  of_stop stop = stop.quantity

  -- what is left of a name is all that has it
  pub left-named : units_left s member reference ≡ units_named s member reference
  left-named = by (find (is_named member reference) s.orders) refl
    where
      by : (o : Option Order) → find (is_named member reference) s.orders ≡ o → units_of_either o (find (is_stop_named member reference) s.stops) ≡ units_named s member reference
      by (Some o) is =
          let has = once-has (is_named member reference) of_order s.orders (omega (arith, once)) ∙ ap (units_found (is_named member reference) of_order) is in
          let some = found-counts (is_named member reference) of_order s.orders o is in
          let none = none-has (is_stop_named member reference) of_stop s.stops (omega (arith, once, some)) in
          omega (arith, has, none)
      by None is =
          let none = once-has (is_named member reference) of_order s.orders (omega (arith, once)) ∙ ap (units_found (is_named member reference) of_order) is in
          let has = once-has (is_stop_named member reference) of_stop s.stops (omega (arith, once)) in
          either (find (is_stop_named member reference) s.stops) (omega (arith, has, none))
        where
          either : (stop : Option Stop) → units_found (is_stop_named member reference) of_stop stop ≡ units_named s member reference → units_of_either None stop ≡ units_named s member reference
          either None h = h
          either (Some stop) h = h

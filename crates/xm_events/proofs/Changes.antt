-- A change of an order: the order of its name has the units that the change gives it, and what has another name keeps its own.
use Rattle.std.proofs.Common.{◌≡◌, ℕ, ◌+◌, Bool, true, false, if◌then◌else◌, cond, List, sum_by, refl, sym, ◌∙◌, arith}
use Rattle.std.specs.List.{list_any}
use Rattle.xm_events.specs.Life.{units_named}
use Rattle.xm_rules.specs.Orders.{is_named, is_stop_named, removed, removed_stop, with_rest}
use Rattle.xm_rules.specs.State.{State}
use Rattle.xm_rules.specs.Step.{cancelled, reduced}
use Rattle.xm_rules.specs.declared.orders.Order.{Order}
use Rattle.xm_rules.specs.declared.orders.Stop.{Stop}
use Rattle.xm_rules.proofs.Orderings.{sum-filter, sum-map}
use Rattle.xm_rules.proofs.SettledSums.{split}
use Rattle.xm_rules.proofs.Sums.{sum-each, sum-zero}
use Rattle.xm_events.proofs.NamedUnits.{order_units, stop_units}
use Rattle.xm_rules.proofs.OneName.{count-none}
use Rattle.xm_events.proofs.Names.{names_are, other_name}
use Rattle.xm_events.proofs.TestedSums.{apart_if, sum-once, sum-uncounted, sum-without}

module _ (member reference : ℕ) where
  -- the units of the name in a time list, and in held stops
  abbrev units_in_orders : List Order → ℕ
  units_in_orders os = sum_by (order_units member reference) os

  abbrev units_in_stops : List Stop → ℕ
  units_in_stops stops = sum_by (stop_units member reference) stops

  -- ---- with other units

  own_units : (q : ℕ) (x : Order) (b : Bool) → is_named member reference x ≡ b → order_units member reference (if b then record x { rest = q } else x) ≡ (if b then q else 0)
  own_units q x true e = λ k. if e k then q else 0
  own_units q x false e = λ k. if e k then x.rest else 0

  -- the one order of the name has the units that are given to it
  given_its : (q : ℕ) (os : List Order) → sum_by (λ (x : Order). cond (is_named member reference x) 1 0) os ≡ 1 → units_in_orders (with_rest member reference q os) ≡ q
  given_its q os one =
      sum-map (order_units member reference) (λ (x : Order). if is_named member reference x then record x { rest = q } else x) os
      ∙ sum-each (λ (x : Order). order_units member reference (if is_named member reference x then record x { rest = q } else x)) (λ (x : Order). if is_named member reference x then q else 0) os
      (λ x. own_units q x (is_named member reference x) refl)
      ∙ sum-once (is_named member reference) q os one

  -- an order of another name has none of its units
  unnamed_units : (q : ℕ) (x : Order) (b : Bool) → (b ≡ true → is_named member reference x ≡ false)
      → order_units member reference (if b then record x { rest = q } else x) ≡ order_units member reference x
  unnamed_units q x true other = let e = other refl in (λ k. if e k then q else 0) ∙ sym (λ k. if e k then x.rest else 0)
  unnamed_units q x false other = refl

  -- and so orders of other names keep what they have
  given_others : (o : Order) (q : ℕ) (os : List Order) → is_named member reference o ≡ false → units_in_orders (with_rest o.member o.reference q os) ≡ units_in_orders os
  given_others o q os e =
      sum-map (order_units member reference) (λ (x : Order). if is_named o.member o.reference x then record x { rest = q } else x) os
      ∙ sum-each (λ (x : Order). order_units member reference (if is_named o.member o.reference x then record x { rest = q } else x)) (order_units member reference) os
      (λ x. unnamed_units q x (is_named o.member o.reference x) (λ same. other_name x.member x.reference o.member o.reference member reference same e))

  -- ---- without one

  -- the orders that go have another name
  removed_others : (o : Order) (os : List Order) → is_named member reference o ≡ false → units_in_orders (removed o.member o.reference os) ≡ units_in_orders os
  removed_others o os e =
      let named = is_named o.member o.reference in
      omega (
        arith,
        split (order_units member reference) named os,
        sum-filter (order_units member reference) named os,
        sum-zero (λ (x : Order). if named x then order_units member reference x else 0) os
            (λ x. apart_if (named x) (is_named member reference x) x.rest (λ same. other_name x.member x.reference o.member o.reference member reference same e)),
      )

  -- and so have the stops
  removed_other_stops : (o : Order) (stops : List Stop) → is_named member reference o ≡ false → units_in_stops (removed_stop o.member o.reference stops) ≡ units_in_stops stops
  removed_other_stops o stops e =
      let named = is_stop_named o.member o.reference in
      omega (
        arith,
        split (stop_units member reference) named stops,
        sum-filter (stop_units member reference) named stops,
        sum-zero (λ (x : Stop). if named x then stop_units member reference x else 0) stops
            (λ x. apart_if (named x) (is_stop_named member reference x) x.quantity (λ same. other_name x.member x.reference o.member o.reference member reference same e)),
      )

  -- of the name itself nothing stays
  nothing_left : (s : State) → units_named (cancelled s member reference) member reference ≡ 0
  nothing_left s =
      omega (
        arith,
        sum-without (is_named member reference) (λ (o : Order). o.rest) s.orders,
        sum-without (is_stop_named member reference) (λ (stop : Stop). stop.quantity) s.stops,
      )

  -- ---- the two forms of a change

  -- the order of a name is there once, and no stop has it
  pub record StandsAlone (s : State) : Type 0 where
    pub one : sum_by (λ (x : Order). cond (is_named member reference x) 1 0) s.orders ≡ 1
    pub no_stop : list_any (is_stop_named member reference) s.stops ≡ false

  reduced_if : (s : State) (q : ℕ) (o : Order) (b : Bool) → is_named member reference o ≡ b → (b ≡ true → StandsAlone s)
      → units_named (reduced s q o) member reference ≡ (if b then q else units_named s member reference)
  reduced_if s q o true e alone =
      let own = names_are member reference o e in
      let a = alone refl in
      let same : units_in_orders (with_rest o.member o.reference q s.orders) ≡ q =
      (λ k. units_in_orders (with_rest (own.0 k) (own.1 k) q s.orders)) ∙ given_its q s.orders a.one in
      omega (arith, same, sum-uncounted (is_stop_named member reference) (λ (stop : Stop). stop.quantity) s.stops (count-none (is_stop_named member reference) s.stops a.no_stop))
  reduced_if s q o false e alone = omega (arith, given_others o q s.orders e)

  -- an order keeps its place, and has these units
  pub reduced_units : (s : State) (q : ℕ) (o : Order) → (is_named member reference o ≡ true → StandsAlone s)
      → units_named (reduced s q o) member reference ≡ (if is_named member reference o then q else units_named s member reference)
  reduced_units s q o alone = reduced_if s q o (is_named member reference o) refl alone

  cancelled_if : (s : State) (q : ℕ) (o : Order) (b : Bool) → is_named member reference o ≡ b
      → units_named (cancelled s o.member o.reference) member reference + (if b then q else 0) ≡ (if b then q else units_named s member reference)
  cancelled_if s q o true e =
      let own = names_are member reference o e in
      let none : units_named (cancelled s o.member o.reference) member reference ≡ 0 =
      (λ k. units_named (cancelled s (own.0 k) (own.1 k)) member reference) ∙ nothing_left s in
      omega (arith, none)
  cancelled_if s q o false e = omega (arith, removed_others o s.orders e, removed_other_stops o s.stops e)

  -- an order leaves, and has these units as it comes in again
  pub cancelled_units : (s : State) (q : ℕ) (o : Order)
      → units_named (cancelled s o.member o.reference) member reference + (if is_named member reference o then q else 0)
      ≡ (if is_named member reference o then q else units_named s member reference)
  cancelled_units s q o = cancelled_if s q o (is_named member reference o) refl

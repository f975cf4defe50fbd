-- What a sweep takes of the orders of a name: of the incoming one all that it fills, of each other one what it fills of that.
use Rattle.std.proofs.Common.{◌≡◌, ℕ, ◌+◌, ◌-◌, ◌≤◌, min, Bool, true, false, ◌&&◌, if◌then◌else◌, filter, map, sum_by, refl, ◌∙◌, arith}
use Rattle.std.specs.List.{list_all}
use Rattle.std.specs.Prelude.{nat_lt}
use Rattle.std.proofs.lemmas.Bool.Decides.{nat_tests}
use Rattle.xm_events.specs.Story.{units_traded}
use Rattle.xm_rules.specs.Active.{Positioned, is_active_on, positioned_from}
use Rattle.xm_rules.specs.Orders.{is_named, meets}
use Rattle.xm_rules.specs.State.{inside_both}
use Rattle.xm_rules.specs.Sweep.{Sweep, ahead_of, fill, filled, is_executable, is_met_inside, meet_price, orders_after_sweep, other_side, queue, sweep_trades, trade_with, units_before}
use Rattle.xm_rules.specs.declared.orders.TradeKind.TheVariants as made
use Rattle.xm_rules.specs.declared.phases.Phase.TheVariants.{Continuous}
use Rattle.xm_rules.proofs.Orderings.{by_second, sum-filter, sum-in_order, sum-map}
use Rattle.xm_rules.proofs.Sums.{sum-add, sum-each}
use Rattle.xm_events.proofs.NamedUnits.{named_left, of_named, order_units, units_between}
use Rattle.xm_events.proofs.TestedSums.{sum-under}

within_order : (b : Bool) (n m : ℕ) → (if b then min n m else 0) ≤ n
within_order true n m = omega arith
within_order false n m = omega arith

-- no order is filled with more than it has
fill_within : (w : Sweep) (i : Positioned) → fill w i ≤ i.order.rest
fill_within w i = within_order (is_executable w i) i.order.rest (w.incoming.rest - units_before w i)

-- a trade takes nothing where nothing is filled
positive_part : (a b : Bool) (n m : ℕ) → m ≡ (if a then n else 0) + (if b then n else 0) → ◌≡◌ {A = ℕ} (if nat_lt 0 n then m else 0) ((if a then n else 0) + (if b then n else 0))
positive_part true true n m e = grind (arith, nat_tests)
positive_part true false n m e = grind (arith, nat_tests)
positive_part false true n m e = grind (arith, nat_tests)
positive_part false false n m e = grind (arith, nat_tests)

-- an order that doesn't stand in the queue isn't filled
in_queue_alone : (stands is_it meets inside others : Bool) (n : ℕ)
    → ◌≡◌ {A = ℕ} (if stands then (if is_it then (if ((stands && meets) && inside) && others then n else 0) else 0) else 0) (if is_it then (if ((stands && meets) && inside) && others then n else 0) else 0)
in_queue_alone true is_it meets inside others n = refl
in_queue_alone false true meets inside others n = refl
in_queue_alone false false meets inside others n = refl

module _ (member reference : ℕ) (w : Sweep) where
  abbrev is_incoming : Bool
  is_incoming = is_named member reference w.incoming

  -- of the whole list none is filled but those of the queue
  of_list : sum_by (of_named member reference (fill w)) (queue w) ≡ sum_by (of_named member reference (fill w)) (positioned_from 0 w.orders)
  of_list =
      let in_queue = is_active_on Continuous (other_side w) in
      let those = of_named member reference (fill w) in
      sum-filter those in_queue (positioned_from 0 w.orders)
      ∙ sum-each (λ (i : Positioned). if in_queue i then those i else 0) those (positioned_from 0 w.orders)
      (λ i. in_queue_alone (in_queue i) (is_named member reference i.order) (meets w.incoming.side w.incoming.kind i.order.kind) (inside_both w.ranges (meet_price w i))
      (list_all (is_met_inside w) (ahead_of w i)) (min i.order.rest (w.incoming.rest - units_before w i)))

  -- what the trades take of a name
  sweep_takes : (number : ℕ)
      → sum_by (units_traded member reference) (sweep_trades number w) ≡ (if is_incoming then filled w else 0) + sum_by (of_named member reference (fill w)) (positioned_from 0 w.orders)
  sweep_takes number =
      let filling = filter (λ (i : Positioned). nat_lt 0 (fill w i)) (queue w) in
      let own = λ (i : Positioned). (if is_incoming then fill w i else 0) in
      let those = of_named member reference (fill w) in
      omega (
        arith,
        sum-in_order (units_traded member reference) (map (λ (i : Positioned). (units_before w i, trade_with number w i)) filling),
        sum-map (by_second (units_traded member reference)) (λ (i : Positioned). (units_before w i, trade_with number w i)) filling,
        sum-filter (λ (i : Positioned). units_traded member reference (trade_with number w i)) (λ (i : Positioned). nat_lt 0 (fill w i)) (queue w),
        sum-each (λ (i : Positioned). if nat_lt 0 (fill w i) then units_traded member reference (trade_with number w i) else 0) (λ (i : Positioned). own i + those i) (queue w)
            (λ i. positive_part is_incoming (is_named member reference i.order) (fill w i) (units_traded member reference (trade_with number w i))
            (units_between member reference number made.Continuous (meet_price w i) (fill w i) w.incoming.side w.incoming i.order)),
        sum-add own those (queue w),
        sum-under is_incoming (fill w) (queue w),
        of_list,
      )

  -- what the trades take of a name, its orders lose, and the incoming one
  pub sweep_conserves : (number : ℕ) → sum_by (units_traded member reference) (sweep_trades number w) + sum_by (order_units member reference) (orders_after_sweep w)
      ≡ sum_by (order_units member reference) w.orders + (if is_incoming then filled w else 0)
  sweep_conserves number = omega (arith, sweep_takes number, named_left member reference (fill w) w.orders (fill_within w))

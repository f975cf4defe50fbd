-- What a sweep takes is no more than comes in, and is what its trades say.
use Rattle.std.proofs.Common.{◌≡◌, ℕ, ◌-◌, ◌≤◌, min, Bool, true, false, ◌&&◌, ◌+◌, if◌then◌else◌, filter, map, sum_by, refl, ◌∙◌, arith}
use Rattle.std.specs.List.{list_all}
use Rattle.std.specs.Prelude.{nat_lt}
use Rattle.std.proofs.lemmas.Bool.Decides.{nat_tests}
use Rattle.std.proofs.lemmas.List.Elements.{All-contains_itself}
use Rattle.std.proofs.lemmas.List.Sums.{sum_by-le-sum_by}
use Rattle.xm_rules.specs.Active.{Positioned, positioned_from, is_active_on}
use Rattle.xm_rules.specs.Orders.{meets, trade_between}
use Rattle.xm_rules.specs.Priority.{before}
use Rattle.xm_rules.specs.State.{inside_both}
use Rattle.xm_rules.specs.Sums.{total_quantity}
use Rattle.xm_rules.specs.Sweep.{Sweep, other_side, queue, units_before, meet_price, ahead_of, is_met_inside, is_executable, fill, filled, trade_with, sweep_trades, orders_after_sweep}
use Rattle.xm_rules.specs.declared.orders.Order.{Order}
use Rattle.xm_rules.specs.declared.orders.Side.{Side}
use Rattle.xm_rules.specs.declared.orders.Side.TheVariants.{Buy, Sell}
use Rattle.xm_rules.specs.declared.orders.Trade.{Trade}
use Rattle.xm_rules.specs.declared.orders.TradeKind.{TradeKind}
use Rattle.xm_rules.specs.declared.orders.TradeKind.TheVariants as made
use Rattle.xm_rules.specs.declared.phases.Phase.TheVariants.{Continuous}
use Rattle.xm_rules.proofs.Orderings.{by_second, sum-in_order, sum-map, sum-filter}
use Rattle.xm_rules.proofs.Positions.{rising_active}
use Rattle.xm_rules.proofs.Queues.{units, apart}
use Rattle.xm_rules.proofs.Sums.{sum-each}
use Rattle.xm_rules.proofs.TimeLists.{rest_of, left_and_taken}
use Rattle.xm_rules.proofs.Units.{owned, owned_within}

if_at_most : (b : Bool) (n : ℕ) → (if b then n else 0) ≤ n
if_at_most true n = omega arith
if_at_most false n = omega arith

pub filled_within : (w : Sweep) → filled w ≤ w.incoming.rest
filled_within w =
    let side = other_side w in
    let ahead = before side (queue w) in
    let fills : sum_by (fill w) (queue w) ≤ sum_by (owned ahead units w.incoming.rest) (queue w) =
    sum_by-le-sum_by (fill w) (owned ahead units w.incoming.rest) (queue w) (λ i. if_at_most (is_executable w i) (min i.order.rest (w.incoming.rest - units_before w i))) in
    let within : sum_by (owned ahead units w.incoming.rest) (queue w) ≤ w.incoming.rest =
    owned_within ahead units (queue w) (apart side (queue w) (queue w) (All-contains_itself (queue w)) (rising_active Continuous side w.orders)) w.incoming.rest in
    omega arith

abbrev pub quantity_of : Trade → ℕ
quantity_of t = t.quantity

pub quantity_between : (sweep : ℕ) (kind : TradeKind) (price quantity : ℕ) (side : Side) (o i : Order) → quantity_of (trade_between sweep kind price quantity side o i) ≡ quantity
quantity_between sweep kind price quantity Buy o i = refl
quantity_between sweep kind price quantity Sell o i = refl

positive_part : (n m : ℕ) → m ≡ n → ◌≡◌ {A = ℕ} (if nat_lt 0 n then m else 0) n
positive_part n m e = grind (arith, nat_tests)

pub traded_is_filled : (number : ℕ) (w : Sweep) → total_quantity (sweep_trades number w) ≡ filled w
traded_is_filled number w =
    let filling = filter (λ (i : Positioned). nat_lt 0 (fill w i)) (queue w) in
    sum-in_order quantity_of (map (λ (i : Positioned). (units_before w i, trade_with number w i)) filling)
    ∙ sum-map (by_second quantity_of) (λ (i : Positioned). (units_before w i, trade_with number w i)) filling
    ∙ sum-filter (λ (i : Positioned). quantity_of (trade_with number w i)) (λ (i : Positioned). nat_lt 0 (fill w i)) (queue w)
    ∙ sum-each (λ (i : Positioned). if nat_lt 0 (fill w i) then quantity_of (trade_with number w i) else 0) (fill w) (queue w)
    (λ i. positive_part (fill w i) (quantity_of (trade_with number w i)) (quantity_between number made.Continuous (meet_price w i) (fill w i) w.incoming.side w.incoming i.order))

within_order : (b : Bool) (n m : ℕ) → (if b then min n m else 0) ≤ n
within_order true n m = omega arith
within_order false n m = omega arith

-- an order that doesn't stand in the queue isn't filled
in_queue_alone : (stands meets inside others : Bool) (n : ℕ)
    → ◌≡◌ {A = ℕ} (if stands then (if ((stands && meets) && inside) && others then n else 0) else 0) (if ((stands && meets) && inside) && others then n else 0)
in_queue_alone true meets inside others n = refl
in_queue_alone false meets inside others n = refl

filled_of_list : (w : Sweep) → filled w ≡ sum_by (fill w) (positioned_from 0 w.orders)
filled_of_list w =
    let in_queue = is_active_on Continuous (other_side w) in
    sum-filter (fill w) in_queue (positioned_from 0 w.orders)
    ∙ sum-each (λ (i : Positioned). if in_queue i then fill w i else 0) (fill w) (positioned_from 0 w.orders)
    (λ i. in_queue_alone (in_queue i) (meets w.incoming.side w.incoming.kind i.order.kind) (inside_both w.ranges (meet_price w i))
    (list_all (is_met_inside w) (ahead_of w i)) (min i.order.rest (w.incoming.rest - units_before w i)))

-- what the list loses is what the sweep fills
pub list_loses_filled : (w : Sweep) → sum_by rest_of (orders_after_sweep w) + filled w ≡ sum_by rest_of w.orders
list_loses_filled w =
    omega (arith, filled_of_list w, left_and_taken (fill w) w.orders (λ i. within_order (is_executable w i) i.order.rest (w.incoming.rest - units_before w i)))

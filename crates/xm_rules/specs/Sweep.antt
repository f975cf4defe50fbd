-- The sweep: an incoming order is executed against the other side, in order of priority and inside the price ranges.
use Rattle.std.specs.Prelude.{ℕ, ◌-◌, Bool, ◌&&◌, not, if◌then◌else◌, nat_lt, nat_le, min, List, ◌++◌, filter, map, sum_by}
use Rattle.std.specs.List.{list_all, list_any}
use Rattle.std.specs.Option.{option_to_list}
use Rattle.xm_rules.specs.Active.{Positioned, is_active_on, active, limits}
use Rattle.xm_rules.specs.Orders.{limit_of, meets, trade_between}
use Rattle.xm_rules.specs.Priority.{is_ahead, before, without_units, in_order}
use Rattle.xm_rules.specs.Sides.{opposite, best_from}
use Rattle.xm_rules.specs.State.{Ranges, inside_both}
use Rattle.xm_rules.specs.declared.orders.Order.{Order}
use Rattle.xm_rules.specs.declared.orders.OrderKind.{OrderKind}
use Rattle.xm_rules.specs.declared.orders.OrderKind.TheVariants.{Market, Limit}
use Rattle.xm_rules.specs.declared.orders.Side.{Side}
use Rattle.xm_rules.specs.declared.orders.Trade.{Trade}
use Rattle.xm_rules.specs.declared.orders.TradeKind.TheVariants.{Continuous}
use Rattle.xm_rules.specs.declared.phases.Phase.TheVariants as phase

-- an incoming order, the time list that it finds, and the ranges of that moment, which hold for the whole sweep
pub record Sweep : Type 0 where
  pub ranges : Ranges
  pub orders : List Order
  pub incoming : Order

abbrev pub other_side : Sweep → Side
other_side w = opposite w.incoming.side

-- the orders that the incoming one may find
abbrev pub queue : Sweep → List Positioned
queue w = active phase.Continuous (other_side w) w.orders

abbrev pub ahead_of : Sweep → Positioned → List Positioned
ahead_of w i = filter (λ j. is_ahead (other_side w) j i) (queue w)

-- the units before an order
abbrev pub units_before : Sweep → Positioned → ℕ
units_before w i = before (other_side w) (queue w) i

-- a limit order is met at its limit, a market order at the best of the last price, the best limit of its side and the incoming limit
abbrev pub price_met : Sweep → OrderKind → ℕ
price_met w (Limit p) = p
price_met w Market = best_from (other_side w) w.ranges.ref1 (limits (queue w) ++ option_to_list (limit_of w.incoming.kind))

abbrev pub meet_price : Sweep → Positioned → ℕ
meet_price w i = price_met w i.order.kind

abbrev pub is_met : Sweep → Positioned → Bool
is_met w i = is_active_on phase.Continuous (other_side w) i && meets w.incoming.side w.incoming.kind i.order.kind

abbrev pub is_met_inside : Sweep → Positioned → Bool
is_met_inside w i = is_met w i && inside_both w.ranges (meet_price w i)

-- the sweep may execute an order: it and each order ahead of it is met inside both ranges
abbrev pub is_executable : Sweep → Positioned → Bool
is_executable w i = is_met_inside w i && list_all (is_met_inside w) (ahead_of w i)

-- the units that the sweep takes from an order
abbrev pub fill : Sweep → Positioned → ℕ
fill w i = if is_executable w i then min i.order.rest (w.incoming.rest - units_before w i) else 0

abbrev pub filled : Sweep → ℕ
filled w = sum_by (fill w) (queue w)

-- the incoming order's units that are left
abbrev pub rest_after : Sweep → ℕ
rest_after w = w.incoming.rest - filled w

-- trading is interrupted at an order: it is the first one that is met outside a range, and the incoming order has units left there
abbrev pub interrupts_at : Sweep → Positioned → Bool
interrupts_at w i = (is_met w i && not (is_executable w i)) && (list_all (is_executable w) (ahead_of w i) && nat_lt (units_before w i) w.incoming.rest)

abbrev pub is_interrupted : Sweep → Bool
is_interrupted w = list_any (interrupts_at w) (queue w)

abbrev pub trade_with : ℕ → Sweep → Positioned → Trade
trade_with number w i = trade_between number Continuous (meet_price w i) (fill w i) w.incoming.side w.incoming i.order

-- the trades, in the order of the units before them
abbrev pub sweep_trades : ℕ → Sweep → List Trade
sweep_trades number w = in_order (map (λ (i : Positioned). (units_before w i, trade_with number w i)) (filter (λ (i : Positioned). nat_lt 0 (fill w i)) (queue w)))

-- the time list after it
abbrev pub orders_after_sweep : Sweep → List Order
orders_after_sweep w = without_units (fill w) w.orders

-- the orders that the sweep may execute have at least the incoming quantity
abbrev pub is_fillable : Sweep → Bool
is_fillable w = nat_le w.incoming.rest (sum_by (λ (i : Positioned). i.order.rest) (filter (is_executable w) (queue w)))

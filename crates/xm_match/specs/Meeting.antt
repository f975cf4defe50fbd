-- How an incoming order meets the orders of the other side, and its next trade.
use Rattle.std.specs.Prelude.{ℕ, ◌+◌, ◌<◌, ◌≤◌, min, Bool, true, false, ◌&&◌, ◌==◌, if◌then◌else◌, List, length, Option, Some, None, option_map}
use Rattle.xm_book.specs.Queues.{best_order}
use Rattle.xm_match.specs.declared.meeting.Next.{Next}
use Rattle.xm_match.specs.declared.meeting.Next.TheVariants.{Nothing, Inside, Outside}
use Rattle.xm_match.specs.declared.terms.Terms.{Terms}
use Rattle.xm_rules.specs.Orders.{meets, trade_between}
use Rattle.xm_rules.specs.Sides.{opposite}
use Rattle.xm_rules.specs.State.{Ranges, inside_both}
use Rattle.xm_rules.specs.Sweep as rules
use Rattle.xm_rules.specs.declared.orders.Order.{Order}
use Rattle.xm_rules.specs.declared.orders.OrderKind.{OrderKind}
use Rattle.xm_rules.specs.declared.orders.OrderKind.TheVariants.{Market, Limit}
use Rattle.xm_rules.specs.declared.orders.Trade.{Trade}
use Rattle.xm_rules.specs.declared.orders.TradeKind.TheVariants as made
use Rattle.xm_rules.specs.declared.phases.Phase.TheVariants.{Continuous}
use Rattle.xm_rules.specs.declared.settings.Widths.{Widths}

-- an incoming order that finds this time list, at these references and widths of the ranges
abbrev pub sweep_over : List Order → Order → ℕ → ℕ → Widths → rules.Sweep
sweep_over orders incoming ref1 ref2 widths = record { ranges = record { ref1 = ref1; ref2 = ref2; widths = widths }; orders = orders; incoming = incoming }

-- what of it is fixed before the first fill
abbrev pub terms_of : rules.Sweep → Terms
terms_of w = record { incoming = w.incoming; ref1 = w.ranges.ref1; ref2 = w.ranges.ref2; widths = w.ranges.widths; market = rules.price_met w Market }

abbrev pub ranges_of : Terms → Ranges
ranges_of t = record { ref1 = t.ref1; ref2 = t.ref2; widths = t.widths }

abbrev pub is_kind_met : Terms → OrderKind → Bool
is_kind_met t kind = meets t.incoming.side t.incoming.kind kind

abbrev pub price_of_kind : Terms → OrderKind → ℕ
price_of_kind t Market = t.market
price_of_kind t (Limit p) = p

abbrev pub is_inside : Terms → OrderKind → Bool
is_inside t kind = inside_both (ranges_of t) (price_of_kind t kind)

abbrev pub meets_inside : Terms → OrderKind → Bool
meets_inside t kind = is_kind_met t kind && is_inside t kind

-- the best order of the other side, where there is one
abbrev pub best_of : Terms → List Order → Option Order
best_of t orders = best_order Continuous (opposite t.incoming.side) orders

-- the trade of an order that is met, in what it has and no more than so many units
abbrev pub trade_up_to : ℕ → Terms → ℕ → Order → Trade
trade_up_to number t units o = trade_between number made.Continuous (price_of_kind t o.kind) (min o.rest units) t.incoming.side t.incoming o

-- how an incoming order meets the best order of the other side
abbrev pub next_of : Terms → Order → Next
next_of t o = if is_kind_met t o.kind then (if is_inside t o.kind then Inside o else Outside (price_of_kind t o.kind)) else Nothing

abbrev pub next_of_any : Terms → Option Order → Next
next_of_any t None = Nothing
next_of_any t (Some o) = next_of t o

-- an incoming order meets the best order of the other side, which is of this kind, inside the ranges or not
abbrev pub meets_kind : Order → Option OrderKind → Bool
meets_kind incoming None = false
meets_kind incoming (Some kind) = meets incoming.side incoming.kind kind

abbrev pub meets_any : List Order → Order → Bool
meets_any orders incoming = meets_kind incoming (option_map (λ (o : Order). o.kind) (best_order Continuous (opposite incoming.side) orders))

-- what an incoming order meets next of which so many units are left
abbrev pub next_met : Terms → ℕ → List Order → Next
next_met t units orders = if units == 0 then Nothing else next_of_any t (best_of t orders)

-- the price at which an order is met outside a range
abbrev pub price_outside : Next → Option ℕ
price_outside (Outside price) = Some price
price_outside next = None

-- the orders and the trades after a sweep, together
abbrev pub orders_and_trades : ℕ → rules.Sweep → ℕ
orders_and_trades number w = length (rules.orders_after_sweep w) + length (rules.sweep_trades number w)

-- each trade uses up the order that it is made with, but the last one where it uses up the incoming order
pub record EachUsesUp (number : ℕ) (w : rules.Sweep) : Type 0 where
  pub units_left : 0 < rules.rest_after w → orders_and_trades number w ≤ length w.orders
  pub at_most : orders_and_trades number w ≤ length w.orders + 1

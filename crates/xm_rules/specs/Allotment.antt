-- The allotment of a call: who trades with whom at the auction price.
use Rattle.std.specs.Prelude.{ℕ, ◌+◌, ◌-◌, Bool, ◌&&◌, if◌then◌else◌, nat_lt, min, max, List, filter, Option, Some, None}
use Rattle.std.specs.List.{filter_map, flat_map}
use Rattle.xm_rules.specs.Active.{Positioned, is_active_on, active}
use Rattle.xm_rules.specs.Orders.{accepts, trade_between}
use Rattle.xm_rules.specs.Priority.{before, without_units, in_order}
use Rattle.xm_rules.specs.declared.orders.Order.{Order}
use Rattle.xm_rules.specs.declared.orders.Side.{Side}
use Rattle.xm_rules.specs.declared.orders.Side.TheVariants.{Buy, Sell}
use Rattle.xm_rules.specs.declared.orders.Trade.{Trade}
use Rattle.xm_rules.specs.declared.orders.TradeKind.TheVariants.{Auction}
use Rattle.xm_rules.specs.declared.phases.Auction.{Auction as TheAuction}
use Rattle.xm_rules.specs.declared.phases.CallStage.{CallStage}
use Rattle.xm_rules.specs.declared.phases.Phase.TheVariants.{Call}

-- a call, the time list at its end, and its price and volume
pub record Uncrossing : Type 0 where
  pub auction : TheAuction
  pub stage : CallStage
  pub orders : List Order
  pub price : ℕ
  pub volume : ℕ

abbrev pub side_queue : Uncrossing → Side → List Positioned
side_queue u side = active (Call u.auction u.stage) side u.orders

-- the active orders of a side that accept the price
abbrev pub takes_part : Uncrossing → Side → Positioned → Bool
takes_part u side i = is_active_on (Call u.auction u.stage) side i && accepts side i.order.kind u.price

-- of the units up to the volume an order owns those that follow the ones ahead of it
abbrev pub first_unit : Uncrossing → Side → Positioned → ℕ
first_unit u side i = before side (side_queue u side) i

abbrev pub end_unit : Uncrossing → Side → Positioned → ℕ
end_unit u side i = min (first_unit u side i + i.order.rest) u.volume

-- the units that a buy and a sell both own, where there are any, are a trade at the price
abbrev pub traded_units : ℕ → Uncrossing → Positioned → Positioned → ℕ → ℕ → Option (ℕ × Trade)
traded_units number u b s from to =
    if nat_lt from to then Some (from, trade_between number (Auction u.auction u.stage) u.price (to - from) Buy b.order s.order) else None

abbrev pub trade_of_pair : ℕ → Uncrossing → Positioned → Positioned → Option (ℕ × Trade)
trade_of_pair number u b s = traded_units number u b s (max (first_unit u Buy b) (first_unit u Sell s)) (min (end_unit u Buy b) (end_unit u Sell s))

abbrev pub parties : Uncrossing → Side → List Positioned
parties u side = filter (takes_part u side) (side_queue u side)

-- the trades, in the order of their first units
abbrev pub auction_trades : ℕ → Uncrossing → List Trade
auction_trades number u = in_order (flat_map (λ (b : Positioned). filter_map (trade_of_pair number u b) (parties u Sell)) (parties u Buy))

-- the units that were traded of an order
abbrev pub allotted : Uncrossing → Positioned → ℕ
allotted u i = if takes_part u i.order.side i then end_unit u i.order.side i - first_unit u i.order.side i else 0

-- the time list after it
abbrev pub orders_after_call : Uncrossing → List Order
orders_after_call u = without_units (allotted u) u.orders

-- How the best orders of a book trade with each other.
use Rattle.std.specs.Prelude.{◌≤◌, ℕ, ◌+◌, min, List, length}
use Rattle.xm_rules.specs.Allotment.{Uncrossing, auction_trades, orders_after_call}
use Rattle.xm_rules.specs.Orders.{trade_between}
use Rattle.xm_rules.specs.declared.orders.Order.{Order}
use Rattle.xm_rules.specs.declared.orders.Side.TheVariants.{Buy}
use Rattle.xm_rules.specs.declared.orders.Trade.{Trade}
use Rattle.xm_rules.specs.declared.orders.TradeKind.{TradeKind}
use Rattle.xm_rules.specs.declared.phases.Auction.{Auction}
use Rattle.xm_rules.specs.declared.phases.CallStage.{CallStage}

-- the end of a call with this time list, price and volume
abbrev pub uncrossing_of : Auction → CallStage → List Order → ℕ → ℕ → Uncrossing
uncrossing_of auction stage orders price volume = record { auction = auction; stage = stage; orders = orders; price = price; volume = volume }

-- each trade of the end of a call but the last uses up an order at least
abbrev pub UsesUpOrders : ℕ → Uncrossing → Type 0
UsesUpOrders sweep u = length (orders_after_call u) + length (auction_trades sweep u) ≤ length u.orders + 1

-- where the trades of a sweep are made, and at which price
pub record TradeTerms : Type 0 where
  pub sweep : ℕ
  pub kind : TradeKind
  pub price : ℕ

-- a buy and a sell trade what both have, and no more than so many units
abbrev pub trade_of_two : TradeTerms → ℕ → Order → Order → Trade
trade_of_two t units b s = trade_between t.sweep t.kind t.price (min (min b.rest s.rest) units) Buy b s

-- Orders: their names, their limits, and the trades between them.
use Rattle.std.specs.Prelude.{ℕ, Bool, true, false, ◌&&◌, ◌==◌, not, if◌then◌else◌, List, filter, map, Option, Some, None}
use Rattle.xm_rules.specs.Sides.{reaches}
use Rattle.xm_rules.specs.declared.orders.Order.{Order}
use Rattle.xm_rules.specs.declared.orders.OrderKind.{OrderKind}
use Rattle.xm_rules.specs.declared.orders.OrderKind.TheVariants.{Market, Limit}
use Rattle.xm_rules.specs.declared.orders.Restriction.{Restriction}
use Rattle.xm_rules.specs.declared.orders.Restriction.TheVariants.{Free, OpeningOnly, AuctionsOnly, ClosingOnly}
use Rattle.xm_rules.specs.declared.orders.Side.{Side}
use Rattle.xm_rules.specs.declared.orders.Side.TheVariants.{Buy, Sell}
use Rattle.xm_rules.specs.declared.orders.Stop.{Stop}
use Rattle.xm_rules.specs.declared.orders.Trade.{Trade}
use Rattle.xm_rules.specs.declared.orders.TradeKind.{TradeKind}

-- an order or a stop is named by its member and the member's own reference
abbrev pub is_named : ℕ → ℕ → Order → Bool
is_named member reference o = (o.member == member) && (o.reference == reference)

abbrev pub is_stop_named : ℕ → ℕ → Stop → Bool
is_stop_named member reference s = (s.member == member) && (s.reference == reference)

-- a time list in which the order of this name has another rest, and keeps its position
abbrev pub with_rest : ℕ → ℕ → ℕ → List Order → List Order
with_rest member reference rest orders = map (λ (o : Order). if is_named member reference o then record o { rest = rest } else o) orders

-- without the order, or the stop, of this name
abbrev pub removed : ℕ → ℕ → List Order → List Order
removed member reference orders = filter (λ (o : Order). not (is_named member reference o)) orders

abbrev pub removed_stop : ℕ → ℕ → List Stop → List Stop
removed_stop member reference stops = filter (λ (s : Stop). not (is_stop_named member reference s)) stops

-- without the orders, or the stops, of a member
abbrev pub without_member : ℕ → List Order → List Order
without_member member orders = filter (λ (o : Order). not (o.member == member)) orders

abbrev pub without_stops_of : ℕ → List Stop → List Stop
without_stops_of member stops = filter (λ (s : Stop). not (s.member == member)) stops

abbrev pub limit_of : OrderKind → Option ℕ
limit_of Market = None
limit_of (Limit p) = Some p

abbrev pub same_kind : OrderKind → OrderKind → Bool
same_kind Market Market = true
same_kind (Limit p) (Limit q) = p == q
same_kind _ _ = false

abbrev pub same_restriction : Restriction → Restriction → Bool
same_restriction Free Free = true
same_restriction OpeningOnly OpeningOnly = true
same_restriction AuctionsOnly AuctionsOnly = true
same_restriction ClosingOnly ClosingOnly = true
same_restriction _ _ = false

-- an order of this side and kind accepts a price: a market order each, a limit order those up to its limit
abbrev pub accepts : Side → OrderKind → ℕ → Bool
accepts side Market x = true
accepts side (Limit p) x = reaches side p x

-- an order of this side meets one of the other where either is a market order or their limits cross
abbrev pub meets : Side → OrderKind → OrderKind → Bool
meets side kind Market = true
meets side kind (Limit p) = accepts side kind p

-- the trade between an order of this side and one of the other
abbrev pub trade_between : ℕ → TradeKind → ℕ → ℕ → Side → Order → Order → Trade
trade_between sweep kind price quantity Buy o i =
    record { sweep = sweep; kind = kind; price = price; quantity = quantity; buyer = o.member; buy_ref = o.reference; seller = i.member; sell_ref = i.reference }
trade_between sweep kind price quantity Sell o i =
    record { sweep = sweep; kind = kind; price = price; quantity = quantity; buyer = i.member; buy_ref = i.reference; seller = o.member; sell_ref = o.reference }

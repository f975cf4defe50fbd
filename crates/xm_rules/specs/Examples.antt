-- The orders, commands and settings of the worked examples.
use Rattle.std.specs.Prelude.{ℕ, Bool, map, List, [], ◌∷◌, ◌++◌, Option, Some, None}
use Rattle.xm_rules.specs.Active.{is_active}
use Rattle.xm_rules.specs.Allotment.{Uncrossing}
use Rattle.xm_rules.specs.Auction.{auction_price}
use Rattle.xm_rules.specs.Entries.{none_left}
use Rattle.xm_rules.specs.Opening.{are_carriable}
use Rattle.xm_rules.specs.Refusals.{refusal_of}
use Rattle.xm_rules.specs.State.{Ranges, State, ref1, ref2}
use Rattle.xm_rules.specs.Step.{step, reply, replay, Journal}
use Rattle.xm_rules.specs.Sweep.{Sweep}
use Rattle.xm_rules.specs.declared.commands.Command.{Command}
use Rattle.xm_rules.specs.declared.commands.Command.TheVariants.{Enter, Change, StartOpening, StartIntraday, StartClosing, Uncross, EndDay}
use Rattle.xm_rules.specs.declared.commands.Condition.TheVariants.{Plain, Boc}
use Rattle.xm_rules.specs.declared.commands.Kind.{Kind}
use Rattle.xm_rules.specs.declared.commands.Kind.TheVariants as kind
use Rattle.xm_rules.specs.declared.orders.Order.{Order}
use Rattle.xm_rules.specs.declared.orders.OrderKind.{OrderKind}
use Rattle.xm_rules.specs.declared.orders.OrderKind.TheVariants.{Market, Limit}
use Rattle.xm_rules.specs.declared.orders.Restriction.{Restriction}
use Rattle.xm_rules.specs.declared.orders.Restriction.TheVariants.{Free, AuctionsOnly}
use Rattle.xm_rules.specs.declared.orders.Side.{Side}
use Rattle.xm_rules.specs.declared.orders.Side.TheVariants.{Buy, Sell}
use Rattle.xm_rules.specs.declared.orders.Stop.{Stop}
use Rattle.xm_rules.specs.declared.orders.Trade.{Trade}
use Rattle.xm_rules.specs.declared.orders.TradeKind.{TradeKind}
use Rattle.xm_rules.specs.declared.orders.TradeKind.TheVariants as made
use Rattle.xm_rules.specs.declared.orders.Validity.{Validity}
use Rattle.xm_rules.specs.declared.orders.Validity.TheVariants.{Day, TillDate, TillCancelled}
use Rattle.xm_rules.specs.declared.phases.Auction.TheVariants.{Opening, Intraday, Closing, Interruption}
use Rattle.xm_rules.specs.declared.phases.CallStage.TheVariants.{Ordinary, Interrupted}
use Rattle.xm_rules.specs.declared.phases.Phase.{Phase}
use Rattle.xm_rules.specs.declared.phases.Phase.TheVariants.{PreTrading, Call, Continuous, PostTrading, Ended}
use Rattle.xm_rules.specs.declared.replies.Refusal.{Refusal}
use Rattle.xm_rules.specs.declared.replies.Refusal.TheVariants.{WrongPhase}
use Rattle.xm_rules.specs.declared.replies.Reply.{Reply}
use Rattle.xm_rules.specs.declared.settings.DeskSettings.{DeskSettings}
use Rattle.xm_rules.specs.declared.settings.Widths.{Widths}

-- a free order for the day, named by its member and reference
abbrev pub order : ℕ → ℕ → Side → OrderKind → ℕ → Order
order member reference side kind rest = record { member = member; reference = reference; side = side; kind = kind; rest = rest; validity = Day; restriction = Free }

-- a stop for the day, which becomes an order of this kind
abbrev pub stop : ℕ → ℕ → Side → ℕ → OrderKind → ℕ → Stop
stop member reference side trigger becomes quantity =
    record { member = member; reference = reference; side = side; trigger = trigger; becomes = becomes; quantity = quantity; validity = Day }

abbrev pub enter : ℕ → ℕ → Side → Kind → ℕ → Command
enter member reference side kind quantity = Enter member reference side kind quantity Day Free Plain

-- a book-or-cancel order of the first member
abbrev pub boc : ℕ → Side → ℕ → ℕ → Command
boc reference side limit quantity = Enter 0 reference side (kind.Limit limit) quantity Day Free Boc

-- a trade of a sweep number: quantity, price, and the member and reference of its buyer and its seller
abbrev pub trade : TradeKind → ℕ → ℕ → ℕ → ℕ × ℕ → ℕ × ℕ → Trade
trade kind sweep quantity price buyer seller =
    record { sweep = sweep; kind = kind; price = price; quantity = quantity; buyer = buyer.0; buy_ref = buyer.1; seller = seller.0; sell_ref = seller.1 }

-- two members, today 2026-01-05, reference price 1000, ranges of 20, 50 and 40 thousandths, 1000 commands
abbrev pub settings : DeskSettings
settings = record { today = 20260105; members = 2; tick = 1; reference = 1000; widths = record { dynamic = 20; statics = 50; wide = 40 }; limit = 1000; carried = none_left }

abbrev pub journal : List Command → Journal
journal commands = record { settings = settings; commands = commands }

abbrev pub state_after : List Command → State
state_after commands = replay (journal commands)

-- an opening auction without a trade, and what follows
abbrev pub opened : List Command → List Command
opened commands = StartOpening ∷ Uncross ∷ commands

-- the reply to a command that follows others
abbrev pub answer : List Command → Command → Reply
answer commands command = reply (state_after commands) (step (state_after commands) command)

-- a state of these orders and stops, with no trade and the settings above
abbrev pub standing : Phase → List Order → List Stop → State
standing phase orders stops = record { settings = settings; accepted = 2; phase = phase; orders = orders; stops = stops; trades = []; sweeps = 0 }

-- why a command is refused in continuous trading with these orders
abbrev pub refusal_beside : List Order → Command → Option Refusal
refusal_beside orders command = refusal_of (standing Continuous orders []) command

-- the price of the last trade, and that of the last auction trade
abbrev pub references : State → ℕ × ℕ
references s = (ref1 s, ref2 s)

-- the price and the volume at which the call of a state would end now
abbrev pub call_price : State → Option (ℕ × ℕ)
call_price s = auction_price s.phase s.orders (ref1 s)

-- an order coming into a time list in continuous trading, with reference prices of 1000
abbrev pub sweep : List Order → Order → Sweep
sweep orders o = record { ranges = record { ref1 = 1000; ref2 = 1000; widths = settings.widths }; orders = orders; incoming = o }

-- the end of the opening call, at this price and volume
abbrev pub uncrossing : List Order → ℕ → ℕ → Uncrossing
uncrossing orders price volume = record { auction = Opening; stage = Ordinary; orders = orders; price = price; volume = volume }

-- limit orders: buys of the first member, and sells of the second
abbrev pub buy : ℕ → ℕ → ℕ → Order
buy reference limit rest = order 0 reference Buy (Limit limit) rest

abbrev pub sell : ℕ → ℕ → ℕ → Order
sell reference limit rest = order 1 reference Sell (Limit limit) rest

-- four orders of which all accept 101
abbrev pub four_orders : List Order
four_orders = buy 1 102 30 ∷ buy 2 101 40 ∷ sell 1 100 20 ∷ sell 2 101 30 ∷ []

-- a market order behind a limit order, and two sells of one limit
abbrev pub queued_orders : List Order
queued_orders = buy 1 101 10 ∷ order 0 2 Buy Market 10 ∷ sell 1 100 5 ∷ sell 2 100 8 ∷ []

-- orders with a surplus of sells at 100 and an equal one of buys at 90
abbrev pub crossed_orders : List Order
crossed_orders = buy 1 100 10 ∷ buy 2 90 5 ∷ sell 1 90 10 ∷ sell 2 100 5 ∷ []

-- two limits with a surplus of buys, 90 and 92, and two with an equal one of sells, 98 and 100
abbrev pub four_candidates : List Order
four_candidates = buy 1 100 10 ∷ buy 2 92 5 ∷ sell 1 90 10 ∷ sell 2 98 5 ∷ []

-- a market order beside a limit
abbrev pub resting_buys : List Order
resting_buys = buy 1 995 5 ∷ order 0 2 Buy Market 10 ∷ []

-- the mirror of it
abbrev pub resting_sells : List Order
resting_sells = sell 1 1005 5 ∷ order 1 2 Sell Market 10 ∷ []

-- two sells, of which the second is outside the dynamic range
abbrev pub distant_sells : List Order
distant_sells = sell 1 1010 10 ∷ sell 2 1030 30 ∷ []

-- three buys below one another
abbrev pub falling_buys : List Order
falling_buys = buy 1 1000 10 ∷ buy 2 990 20 ∷ buy 3 985 30 ∷ []

-- a market order beside a limit, and a sell at a limit outside the dynamic range
abbrev pub distant_sell : List Command
distant_sell = opened (enter 0 1 Buy (kind.Limit 995) 5 ∷ enter 0 2 Buy kind.Market 10 ∷ enter 1 1 Sell (kind.Limit 1030) 10 ∷ [])

-- two sells, of which the second is outside the dynamic range
abbrev pub distant_book : List Command
distant_book = opened (enter 1 1 Sell (kind.Limit 1010) 10 ∷ enter 1 2 Sell (kind.Limit 1030) 30 ∷ [])

-- an opening call in which nothing crosses
abbrev pub open_spread : List Command
open_spread = StartOpening ∷ enter 0 1 Buy (kind.Limit 990) 5 ∷ enter 1 1 Sell (kind.Limit 1010) 5 ∷ []

-- an order and a stop of the first member, and an order of the second
abbrev pub one_stop : List Command
one_stop = opened (enter 0 1 Buy (kind.Limit 990) 10 ∷ enter 0 2 Sell (kind.StopMarket 980) 5 ∷ enter 1 1 Buy (kind.Limit 985) 3 ∷ [])

-- three buys below one another, and two stops
abbrev pub cascade_book : List Command
cascade_book =
    opened (enter 0 1 Buy (kind.Limit 1000) 10 ∷ enter 0 2 Buy (kind.Limit 990) 20 ∷ enter 0 3 Buy (kind.Limit 985) 30
    ∷ enter 1 1 Sell (kind.StopMarket 990) 25 ∷ enter 1 2 Sell (kind.StopLimit 985 985) 10 ∷ [])

-- the same with the third buy at 960, and with a third stop
abbrev pub cut_cascade_book : List Command
cut_cascade_book =
    opened (enter 0 1 Buy (kind.Limit 1000) 10 ∷ enter 0 2 Buy (kind.Limit 990) 20 ∷ enter 0 3 Buy (kind.Limit 960) 30
    ∷ enter 1 1 Sell (kind.StopMarket 990) 25 ∷ enter 1 2 Sell (kind.StopLimit 985 985) 10 ∷ enter 1 4 Sell (kind.StopLimit 990 985) 5 ∷ [])

-- the first book with a third stop, and as many units at 985 as all three sell
abbrev pub full_cascade_book : List Command
full_cascade_book =
    opened (enter 0 1 Buy (kind.Limit 1000) 10 ∷ enter 0 2 Buy (kind.Limit 990) 20 ∷ enter 0 3 Buy (kind.Limit 985) 40
    ∷ enter 1 1 Sell (kind.StopMarket 990) 25 ∷ enter 1 2 Sell (kind.StopLimit 985 985) 10 ∷ enter 1 4 Sell (kind.StopLimit 990 985) 5 ∷ [])

-- a sell that reaches stops of each
abbrev pub falling_sell : Command
falling_sell = enter 1 3 Sell (kind.Limit 990) 30

-- a buy outside the dynamic range, and a sell at its limit
abbrev pub distant_call : List Command
distant_call = StartOpening ∷ enter 0 1 Buy (kind.Limit 1100) 10 ∷ enter 1 1 Sell (kind.Limit 1100) 10 ∷ []

-- two trades in continuous trading, of which the second is at 1040, and a call in which two orders cross at 1055
abbrev pub drifted_call : List Command
drifted_call =
    opened (enter 1 1 Sell (kind.Limit 1020) 1 ∷ enter 0 1 Buy (kind.Limit 1020) 1 ∷ enter 1 2 Sell (kind.Limit 1040) 1 ∷ enter 0 2 Buy (kind.Limit 1040) 1
    ∷ StartIntraday ∷ enter 0 3 Buy (kind.Limit 1055) 10 ∷ enter 1 3 Sell (kind.Limit 1055) 10 ∷ [])

-- two buys of one limit in an opening call
abbrev pub two_buys : List Command
two_buys = StartOpening ∷ enter 0 1 Buy (kind.Limit 1000) 10 ∷ enter 1 1 Buy (kind.Limit 1000) 10 ∷ []

-- the first of them is lowered, left as it is, and raised
abbrev pub three_changes : List Command
three_changes = two_buys ++ Change 0 1 6 None ∷ Change 0 1 6 (Some 1000) ∷ Change 0 1 9 None ∷ []

-- two market buys in an opening call
abbrev pub two_market_buys : List Command
two_market_buys = StartOpening ∷ enter 0 1 Buy kind.Market 10 ∷ enter 1 1 Buy kind.Market 10 ∷ []

-- a buy for auctions that stays till cancelled, and one behind it
abbrev pub lasting_buy : List Command
lasting_buy = StartOpening ∷ Enter 0 1 Buy (kind.Limit 1000) 10 TillCancelled AuctionsOnly Plain ∷ enter 1 1 Buy (kind.Limit 1000) 10 ∷ []

-- a stop that stays till cancelled, and a closing call that reaches it
abbrev pub closing_day : List Command
closing_day =
    opened (Enter 0 9 Sell (kind.StopMarket 990) 5 TillCancelled Free Plain ∷ StartClosing ∷ enter 0 1 Buy (kind.Limit 990) 10
    ∷ enter 1 1 Sell (kind.Limit 990) 4 ∷ Uncross ∷ [])

-- a sell for auctions alone, and a buy that would meet it
abbrev pub waiting_order : List Command
waiting_order = opened (Enter 0 7 Sell (kind.Limit 990) 10 Day AuctionsOnly Plain ∷ enter 1 7 Buy (kind.Limit 1000) 10 ∷ [])

-- eight orders for a journal of eight commands
abbrev pub eight_orders : Journal
eight_orders = record {
  settings = record settings { limit = 8 };
  commands =
      enter 0 1 Buy (kind.Limit 990) 1 ∷ enter 0 2 Buy (kind.Limit 990) 1 ∷ enter 0 3 Buy (kind.Limit 990) 1 ∷ enter 0 4 Buy (kind.Limit 990) 1
      ∷ enter 1 1 Buy (kind.Limit 990) 1 ∷ enter 1 2 Buy (kind.Limit 990) 1 ∷ enter 1 3 Buy (kind.Limit 990) 1 ∷ enter 1 4 Buy (kind.Limit 990) 1 ∷ [];
}

-- two stops that are not reached, and a closing auction without a trade
abbrev pub held_stops : List Command
held_stops = opened (enter 0 8 Sell (kind.StopMarket 900) 5 ∷ Enter 0 9 Sell (kind.StopMarket 900) 5 TillCancelled Free Plain ∷ StartClosing ∷ Uncross ∷ [])

-- where a restriction lets an order take part, of the phases in the order of a day
abbrev pub takes_part_in : Restriction → List Bool
takes_part_in restriction =
    map (λ (phase : Phase). is_active phase restriction)
    (PreTrading ∷ Call Opening Ordinary ∷ Continuous ∷ Call Intraday Ordinary ∷ Call Interruption Interrupted ∷ Call Closing Ordinary ∷ PostTrading ∷ Ended ∷ [])

-- an opening call with a limit order, a market order and a stop of the first member
abbrev pub in_call : State
in_call = standing (Call Opening Ordinary) (order 0 1 Buy (Limit 990) 10 ∷ order 0 2 Buy Market 5 ∷ []) (stop 0 3 Sell 990 Market 5 ∷ [])

abbrev pub ended : State
ended = record in_call { phase = Ended }

-- the same after so many accepted commands
abbrev pub with_accepted : ℕ → State
with_accepted accepted = record in_call { accepted = accepted }

-- what the commands of the phases get: to start the opening, an intraday and the closing call, to end a call, to end the day
abbrev pub refusals_in : Phase → List (Option Refusal)
refusals_in phase = map (refusal_of (record in_call { phase = phase })) (StartOpening ∷ StartIntraday ∷ StartClosing ∷ Uncross ∷ EndDay ∷ [])

abbrev pub wrong : Option Refusal
wrong = Some WrongPhase

-- the phase after a call without an order
abbrev pub after_empty : Phase → Phase
after_empty phase = (step (standing phase [] []) Uncross).phase

-- a call in which two orders cross, after an auction trade at 92 and a later trade at 95
abbrev pub moved_call : State
moved_call = record (standing (Call Intraday Ordinary) (buy 1 100 10 ∷ sell 1 90 10 ∷ []) []) {
  trades = trade (made.Auction Opening Ordinary) 1 1 92 (0, 8) (1, 8) ∷ trade made.Continuous 2 1 95 (0, 9) (1, 9) ∷ [];
  sweeps = 2;
}

-- the widths of the dynamic, the static and the wide range
abbrev pub widths : ℕ → ℕ → ℕ → Widths
widths dynamic statics wide = record { dynamic = dynamic; statics = statics; wide = wide }

-- the ranges around two reference prices, with widths of 40, 50 and 75 thousandths
abbrev pub ranges_around : ℕ → ℕ → Ranges
ranges_around last last_auction = record { ref1 = last; ref2 = last_auction; widths = widths 40 50 75 }

-- a stop that is valid to the end of a date
abbrev pub stop_till : ℕ → ℕ → Stop
stop_till reference date = record (stop 0 reference Sell 900 Market 5) { validity = TillDate date }

-- the first member bought four units at 990 from the second
abbrev pub one_trade : List Trade
one_trade = trade made.Continuous 1 4 990 (0, 1) (1, 1) ∷ []

-- a day of the settings above that begins with these orders and stops
abbrev pub carrying : List Order → List Stop → DeskSettings
carrying orders stops = record settings { carried = record { orders = orders; stops = stops } }

-- entries of earlier days
abbrev pub till : Validity → Order → Order
till validity o = record o { validity = validity }

abbrev pub stop_at : ℕ → ℕ → ℕ → Validity → Stop
stop_at member reference trigger validity = record (stop member reference Sell trigger Market 5) { validity = validity }

-- four orders, of which one is over and one ends today, and four stops, of which two are reached and one is over
abbrev pub left_over : DeskSettings
left_over =
    carrying
    (till TillCancelled (buy 1 990 5) ∷ till (TillDate 20260104) (buy 2 980 5) ∷ till (TillDate 20260105) (sell 1 1010 3) ∷ till (TillDate 20260106) (sell 2 1020 4) ∷ [])
    (stop_at 0 3 1000 TillCancelled ∷ stop_at 1 4 900 TillCancelled ∷ stop_at 1 5 1000 (TillDate 20260104) ∷ stop_at 1 6 1001 (TillDate 20260105) ∷ [])

-- which of these a security takes
abbrev pub takes : List Order → List Stop → Bool
takes orders stops = are_carriable (carrying orders stops)

abbrev pub lasting : Order → Order
lasting o = till TillCancelled o

abbrev pub lasting_stop : Stop
lasting_stop = stop_at 0 3 900 TillCancelled

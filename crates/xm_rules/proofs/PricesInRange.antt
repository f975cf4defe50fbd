-- All trade prices of a lawful journal are in range, where its opening reference is.
use Rattle.std.proofs.Common.{◌≡◌, ℕ, ◌≤◌, true, List, [], ◌∷◌, ◌++◌, All, IfSome, filter, get_or, map, Option, Some, None, refl, sym, subst}
use Rattle.std.specs.Option.{option_to_list}
use Rattle.std.specs.Prelude.{nat_lt}
use Rattle.std.proofs.lemmas.Bool.{and_parts}
use Rattle.std.proofs.lemmas.List.Elements.{All-nil, All-cons, All-head, All-tail, All-append, All-filter, All-map, All-weaker}
use Rattle.xm_ticks.specs.declared.numbers.TheConstants.{MAX_JOURNAL_LIMIT, MAX_PRICE}
use Rattle.xm_rules.specs.Active.{Positioned, active, is_active_on, limits, positioned_from}
use Rattle.xm_rules.specs.Allotment.{auction_trades}
use Rattle.xm_rules.specs.Auction.{candidates}
use Rattle.xm_rules.specs.Commands.{has_prices_in_range, is_in_range, order_kind}
use Rattle.xm_rules.specs.Orders.{limit_of, trade_between}
use Rattle.xm_rules.specs.Refusals.{is_given_in_range}
use Rattle.xm_rules.specs.Settling.{sweep_of}
use Rattle.xm_rules.specs.State.{State, last_price, ref1}
use Rattle.xm_rules.specs.Step.{Journal, changed_kind, is_lawful, replay}
use Rattle.xm_rules.specs.Sums.{AreWithinLimits}
use Rattle.xm_rules.specs.Sweep.{Sweep, fill, other_side, price_met, queue, sweep_trades, trade_with, units_before}
use Rattle.xm_rules.specs.declared.commands.Kind.{Kind}
use Rattle.xm_rules.specs.declared.commands.Kind.TheVariants as kind
use Rattle.xm_rules.specs.declared.orders.Order.{Order}
use Rattle.xm_rules.specs.declared.orders.OrderKind.{OrderKind}
use Rattle.xm_rules.specs.declared.orders.OrderKind.TheVariants.{Market, Limit}
use Rattle.xm_rules.specs.declared.orders.Side.{Side}
use Rattle.xm_rules.specs.declared.orders.Side.TheVariants.{Buy, Sell}
use Rattle.xm_rules.specs.declared.orders.Stop.{Stop}
use Rattle.xm_rules.specs.declared.orders.Trade.{Trade}
use Rattle.xm_rules.specs.declared.orders.TradeKind.TheVariants as made
use Rattle.xm_rules.specs.declared.phases.Phase.{Phase}
use Rattle.xm_rules.specs.declared.phases.Phase.TheVariants.{Call, Continuous}
use Rattle.xm_rules.specs.declared.settings.DeskSettings.{DeskSettings}
use Rattle.xm_rules.proofs.Accepted.{change-accepted, entry-accepted}
use Rattle.xm_rules.proofs.CarriedEntries.{CanBeCarried, CanBeHeld, carriable-parts}
use Rattle.xm_rules.proofs.CallTrades.{All-filter_map, All-in_order, IsOfCall, call_of, trades_of_call}
use Rattle.xm_rules.proofs.Choices.{best_from_has}
use Rattle.xm_rules.proofs.DayLimits.{within_limits}
use Rattle.xm_rules.proofs.EachKept.{AreKept, Holds, lawful-holds, placed}
use Rattle.xm_rules.proofs.Prices.{price_within}
use Rattle.xm_rules.proofs.Ranges.{range_high}

abbrev InRange : ℕ → Type 0
InRange price = price ≤ MAX_PRICE

abbrev HasLimit : OrderKind → Type 0
HasLimit k = IfSome (limit_of k) InRange

abbrev IsLimited : Order → Type 0
IsLimited o = HasLimit o.kind

abbrev IsStopLimited : Stop → Type 0
IsStopLimited stop = HasLimit stop.becomes

abbrev IsPriced : Trade → Type 0
IsPriced t = InRange t.price

-- ---- limits that commands give
limit-entered : (k : Kind) → has_prices_in_range k ≡ true → HasLimit (order_kind k)
limit-entered kind.Market e = tt
limit-entered (kind.Limit p) e = range_high p e
limit-entered (kind.StopMarket t) e = tt
limit-entered (kind.StopLimit t p) e = range_high p (and_parts (is_in_range t) (is_in_range p) e).1

limit-given : (k : OrderKind) → is_given_in_range (limit_of k) ≡ true → HasLimit k
limit-given Market e = tt
limit-given (Limit p) e = range_high p e

limit-changed : (limit : Option ℕ) (k : OrderKind) → is_given_in_range limit ≡ true → HasLimit k → HasLimit (changed_kind limit k)
limit-changed None k e h = h
limit-changed (Some p) k e h = range_high p e

-- ---- prices of trades
last-in-range : (price : ℕ) (ts : List Trade) → InRange price → All IsPriced ts → InRange (last_price price ts)
last-in-range price [] h all = h
last-in-range price (t ∷ ts) h all = last-in-range t.price ts (All-head IsPriced t ts all) (All-tail IsPriced t ts all)

active-limited : (phase : Phase) (side : Side) (os : List Order) → All IsLimited os → All (λ (i : Positioned). IsLimited i.order) (active phase side os)
active-limited phase side os h =
    All-filter (is_active_on phase side) (λ (i : Positioned). IsLimited i.order) (positioned_from 0 os) (placed IsLimited 0 os h)

limits-in-range : (queue : List Positioned) → All (λ (i : Positioned). IsLimited i.order) queue → All InRange (limits queue)
limits-in-range queue h = All-filter_map InRange (λ (i : Positioned). limit_of i.order.kind) queue h

given-in-range : (limit : Option ℕ) → IfSome limit InRange → All InRange (option_to_list limit)
given-in-range None h = All-nil InRange
given-in-range (Some p) h = All-cons InRange p [] h (All-nil InRange)

met-in-range : (w : Sweep) (k : OrderKind) → InRange w.ranges.ref1 → All InRange (limits (queue w)) → HasLimit w.incoming.kind → HasLimit k → InRange (price_met w k)
met-in-range w (Limit p) last all own h = h
met-in-range w Market last all own h =
    best_from_has InRange (other_side w) w.ranges.ref1 (limits (queue w) ++ option_to_list (limit_of w.incoming.kind)) last
    (All-append InRange (limits (queue w)) (option_to_list (limit_of w.incoming.kind)) all (given-in-range (limit_of w.incoming.kind) own))

-- a trade is at its price, whichever side came in
at-price : (side : Side) (number price quantity : ℕ) (o i : Order) → InRange price → IsPriced (trade_between number made.Continuous price quantity side o i)
at-price Buy number price quantity o i h = h
at-price Sell number price quantity o i h = h

of_sweep : (number : ℕ) (w : Sweep) → InRange w.ranges.ref1 → All IsLimited w.orders → IsLimited w.incoming → All IsPriced (sweep_trades number w)
of_sweep number w last h own =
    let queued = active-limited Continuous (other_side w) w.orders h in
    let all = limits-in-range (queue w) queued in
    let filled_ones = filter (λ (i : Positioned). nat_lt 0 (fill w i)) (queue w) in
    let each : All (λ (i : Positioned). IsLimited i.order) filled_ones =
    All-filter (λ (i : Positioned). nat_lt 0 (fill w i)) (λ (i : Positioned). IsLimited i.order) (queue w) queued in
    All-in_order IsPriced (map (λ (i : Positioned). (units_before w i, trade_with number w i)) filled_ones)
    (All-map (λ (x : ℕ × Trade). IsPriced x.1) (λ (i : Positioned). (units_before w i, trade_with number w i)) filled_ones
    (λ k d l. (let i = get_or filled_ones k d in at-price w.incoming.side number _ _ w.incoming i.order (met-in-range w i.order.kind last all own (each k d l)))))

candidates-in-range : (phase : Phase) (os : List Order) → All IsLimited os → All InRange (candidates phase os)
candidates-in-range phase os h =
    limits-in-range (active phase Buy os ++ active phase Sell os)
    (All-append (λ (i : Positioned). IsLimited i.order) (active phase Buy os) (active phase Sell os) (active-limited phase Buy os h) (active-limited phase Sell os h))

prices-kept : (settings : DeskSettings) → InRange settings.reference → AreKept IsLimited IsStopLimited IsPriced settings
prices-kept settings low =
    record {
      begins = λ h.
          let parts = carriable-parts settings h in (
            All-weaker (CanBeCarried settings.members) IsLimited (λ o c. limit-given o.kind c.limit) settings.carried.orders parts.orders,
            All-weaker (CanBeHeld settings.members) IsStopLimited (λ stop c. limit-given stop.becomes c.order.limit) settings.carried.stops parts.stops,
          );
      rests = λ o rest own. own;
      held = λ trigger o own. own;
      comes = λ stop own. own;
      enters = λ s member reference side kind quantity validity restriction condition same h.
          limit-entered kind (entry-accepted s member reference side kind quantity validity restriction condition h).prices;
      changes = λ s member reference quantity limit o h own. limit-changed limit o.kind (change-accepted s member reference quantity limit h).limit own;
      sweeps = λ s o number k own. of_sweep number (sweep_of s o) (last s k) k.orders own;
      calls = λ s auction stage priced number k e.
          All-weaker (IsOfCall (call_of s auction stage priced)) IsPriced
          (λ t h. subst InRange (sym h.price) (price_within (Call auction stage) s.orders (ref1 s) priced.0 priced.1 MAX_PRICE (last s k) (candidates-in-range (Call auction stage) s.orders k.orders) e))
          (auction_trades number (call_of s auction stage priced)) (trades_of_call number (call_of s auction stage priced));
    }
  where
    last : (s : State) → Holds IsLimited IsStopLimited IsPriced settings s → InRange (ref1 s)
    last s k = last-in-range s.settings.reference s.trades (subst (λ (d : DeskSettings). InRange d.reference) (sym k.same) low) k.trades

pub prices_in_range : (j : Journal) → is_lawful j ≡ true → j.settings.reference ≤ MAX_PRICE → All (λ (t : Trade). t.price ≤ MAX_PRICE) (replay j).trades
prices_in_range j h low = (lawful-holds IsLimited IsStopLimited IsPriced j.settings (prices-kept j.settings low) j refl h).trades

pub within_day : (j : Journal) → is_lawful j ≡ true → j.settings.limit ≤ MAX_JOURNAL_LIMIT → j.settings.reference ≤ MAX_PRICE → AreWithinLimits (replay j).trades
within_day j h few low = within_limits j h few (prices_in_range j h low)

-- What happens by a command, in the order in which it does. Each definition stands beside one of the model that changes a state, and
-- lists what happens by that.
use Rattle.std.specs.Prelude.{ℕ, ◌+◌, ◌&&◌, ◌==◌, suc, zero, not, if◌then◌else◌, List, [], ◌∷◌, ◌++◌, filter, find, length, map, sum_by, Option, Some, None, option_map}
use Rattle.xm_events.specs.declared.events.Deletion.TheVariants.{ImmediateOrCancel, FillOrKill, EndOfDay}
use Rattle.xm_events.specs.declared.events.Entry.{Entry}
use Rattle.xm_events.specs.declared.events.Entry.TheVariants as entry
use Rattle.xm_events.specs.declared.events.Event.{Event}
use Rattle.xm_events.specs.declared.events.Event.TheVariants.{Accepted, Changed, Filled, Triggered, Cancelled, Deleted, Interrupted, Began}
use Rattle.xm_events.specs.declared.events.Fill.{Fill}
use Rattle.xm_events.specs.declared.events.PriceRange.{PriceRange}
use Rattle.xm_events.specs.declared.events.PriceRange.TheVariants as range
use Rattle.xm_rules.specs.Allotment.{Uncrossing, auction_trades, orders_after_call}
use Rattle.xm_rules.specs.Auction.{auction_price}
use Rattle.xm_rules.specs.Commands.{outlasts, trigger_of}
use Rattle.xm_rules.specs.Orders.{is_named, is_stop_named}
use Rattle.xm_rules.specs.Settling.{come, is_continuous, is_free, order_of_stop, reached, released, sweep_of}
use Rattle.xm_rules.specs.State.{Ranges, State, ranges, ref1}
use Rattle.xm_rules.specs.Step.{act, cancelled, changed_order, entered_order, keeps_priority, next_phase, stage_after, stop_of}
use Rattle.xm_rules.specs.Sweep.{Sweep, interrupts_at, is_fillable, meet_price, orders_after_sweep, queue, rest_after, sweep_trades}
use Rattle.xm_rules.specs.declared.commands.Command.{Command}
use Rattle.xm_rules.specs.declared.commands.Command.TheVariants.{Enter, Change, Cancel, CancelAll, StartOpening, StartIntraday, StartClosing, Uncross, EndDay}
use Rattle.xm_rules.specs.declared.commands.Condition.{Condition}
use Rattle.xm_rules.specs.declared.commands.Condition.TheVariants.{Plain, Ioc, Fok, Boc}
use Rattle.xm_rules.specs.declared.orders.Order.{Order}
use Rattle.xm_rules.specs.declared.orders.Side.{Side}
use Rattle.xm_rules.specs.declared.orders.Side.TheVariants.{Buy, Sell}
use Rattle.xm_rules.specs.declared.orders.Stop.{Stop}
use Rattle.xm_rules.specs.declared.orders.Trade.{Trade}
use Rattle.xm_rules.specs.declared.phases.Auction.{Auction}
use Rattle.xm_rules.specs.declared.phases.Auction.TheVariants.{Opening, Intraday, Closing, Interruption}
use Rattle.xm_rules.specs.declared.phases.CallStage.{CallStage}
use Rattle.xm_rules.specs.declared.phases.CallStage.TheVariants as stage
use Rattle.xm_rules.specs.declared.phases.Phase.{Phase}
use Rattle.xm_rules.specs.declared.phases.Phase.TheVariants.{Call, Ended}
use Rattle.xm_ticks.specs.Ranges.{inside}

-- ---- trades

-- the member of a trade on this side, and its reference
abbrev pub party : Side → Trade → ℕ × ℕ
party Buy t = (t.buyer, t.buy_ref)
party Sell t = (t.seller, t.sell_ref)

abbrev pub units_on_side : Side → ℕ → ℕ → Trade → ℕ
units_on_side side member reference t = let p = party side t in if (p.0 == member) && (p.1 == reference) then t.quantity else 0

-- the units that a trade takes of the order of this name
abbrev pub units_traded : ℕ → ℕ → Trade → ℕ
units_traded member reference t = units_on_side Buy member reference t + units_on_side Sell member reference t

-- one side of a trade: of its order is left what is left of it in the end, and what the trades behind this one take of it
abbrev pub side_fill : Side → (ℕ → ℕ → ℕ) → Trade → List Trade → Fill
side_fill side left t behind =
    let p = party side t in
    record { member = p.0; reference = p.1; side = side; kind = t.kind; price = t.price; quantity = t.quantity; rest = left p.0 p.1 + sum_by (units_traded p.0 p.1) behind }

-- both sides of each of these trades, behind all of which so much is left of the order of a name
abbrev pub fills : (ℕ → ℕ → ℕ) → List Trade → List Event
fills left [] = []
fills left (t ∷ behind) = Filled (side_fill Buy left t behind) ∷ Filled (side_fill Sell left t behind) ∷ fills left behind

abbrev pub rest_of_found : Option Order → ℕ
rest_of_found (Some o) = o.rest
rest_of_found None = 0

-- what is left of the order of a name in a time list
abbrev pub rest_in : List Order → ℕ → ℕ → ℕ
rest_in orders member reference = rest_of_found (find (is_named member reference) orders)

-- ---- continuous trading

-- the price at which trading is interrupted: that of the first order which is met outside a range
abbrev pub interruption : Sweep → Option ℕ
interruption w = option_map (meet_price w) (find (interrupts_at w) (queue w))

-- the range that a price outside a range leaves: the dynamic one, or else the static one
abbrev pub range_left : Ranges → ℕ → PriceRange
range_left r price = if inside price r.ref1 r.widths.dynamic then range.Static else range.Dynamic

abbrev pub interrupted_events : Ranges → Option ℕ → List Event
interrupted_events r None = []
interrupted_events r (Some price) = Interrupted price (range_left r price) ∷ Began (Call Interruption stage.Interrupted) ∷ []

-- what a sweep leaves of the order of a name: the incoming one, or one that it found
abbrev pub left_by_sweep : Sweep → ℕ → ℕ → ℕ
left_by_sweep w member reference = if is_named member reference w.incoming then rest_after w else rest_in (orders_after_sweep w) member reference

-- an order is executed against the book, as far as it can be, and trading may be interrupted
abbrev pub sweep_events : State → Order → List Event
sweep_events s o =
    let w = sweep_of s o in
    fills (left_by_sweep w) (sweep_trades (s.sweeps + 1) w) ++ interrupted_events (ranges s) (interruption w)

-- an order comes in: a free one is executed in continuous trading
abbrev pub come_events : State → Order → List Event
come_events s o = if is_continuous s.phase && is_free o.restriction then sweep_events s o else []

-- what is left of an immediate order is deleted
abbrev pub killed_events : ℕ → Order → List Event
killed_events zero o = []
killed_events (suc more) o = Deleted (entry.Order (record o { rest = suc more })) ImmediateOrCancel ∷ []

abbrev pub come_under_events : Condition → State → Order → List Event
come_under_events Plain s o = come_events s o
come_under_events Ioc s o = sweep_events s o ++ killed_events (rest_after (sweep_of s o)) o
come_under_events Fok s o = if is_fillable (sweep_of s o) then come_events s o else Deleted (entry.Order o) FillOrKill ∷ []
come_under_events Boc s o = come_events s o

-- ---- entries, changes and cancellations

abbrev pub entry_events : State → Condition → Option ℕ → Order → List Event
entry_events s condition None o = Accepted (entry.Order o) ∷ come_under_events condition s o
entry_events s condition (Some trigger) o = Accepted (entry.Stop (stop_of trigger o)) ∷ []

abbrev pub change_events : State → ℕ → Option ℕ → Option Order → List Event
change_events s quantity limit None = []
change_events s quantity limit (Some o) =
    if keeps_priority quantity limit o
    then Changed (record o { rest = quantity }) ∷ []
    else (let again = changed_order quantity limit o in Changed again ∷ come_events (cancelled s o.member o.reference) again)

-- these orders are deleted so, and then these stops
abbrev pub leave_events : (Entry → Event) → List Order → List Stop → List Event
leave_events gone orders stops = map (λ o. gone (entry.Order o)) orders ++ map (λ stop. gone (entry.Stop stop)) stops

-- ---- calls and the end of the day

-- the range that the price of a call left at this stage
abbrev pub range_left_at : CallStage → Ranges → ℕ → PriceRange
range_left_at stage.Ordinary r price = range_left r price
range_left_at _ r price = range.Wide

-- a call has this price and volume: it goes on in that stage, or else it trades and ends
abbrev pub determined_events : State → Uncrossing → Option CallStage → List Event
determined_events s u None = fills (rest_in (orders_after_call u)) (auction_trades (s.sweeps + 1) u) ++ Began (next_phase u.auction) ∷ []
determined_events s u (Some next) = Interrupted u.price (range_left_at u.stage (ranges s) u.price) ∷ Began (Call u.auction next) ∷ []

abbrev pub uncross_at_events : State → Auction → CallStage → Option (ℕ × ℕ) → List Event
uncross_at_events s auction stage None = Began (next_phase auction) ∷ []
uncross_at_events s auction stage (Some priced) =
    determined_events s (record { auction = auction; stage = stage; orders = s.orders; price = priced.0; volume = priced.1 }) (stage_after (ranges s) stage priced.0)

abbrev pub uncross_events : State → Phase → List Event
uncross_events s (Call auction stage) = uncross_at_events s auction stage (auction_price (Call auction stage) s.orders (ref1 s))
uncross_events s _ = []

abbrev pub end_events : State → List Event
end_events s =
    let today = s.settings.today in
    leave_events (λ gone. Deleted gone EndOfDay) (filter (λ (o : Order). not (outlasts today o.validity)) s.orders) (filter (λ (stop : Stop). not (outlasts today stop.validity)) s.stops)
    ++ Began Ended ∷ []

-- ---- a command

-- what a command does, before the stops that it reached come in
abbrev pub act_events : State → Command → List Event
act_events s (Enter member reference side kind quantity validity restriction condition) =
    entry_events s condition (trigger_of kind) (entered_order member reference side kind quantity validity restriction)
act_events s (Change member reference quantity limit) = change_events s quantity limit (find (is_named member reference) s.orders)
act_events s (Cancel member reference) = leave_events Cancelled (filter (is_named member reference) s.orders) (filter (is_stop_named member reference) s.stops)
act_events s (CancelAll member) = leave_events Cancelled (filter (λ (o : Order). o.member == member) s.orders) (filter (λ (stop : Stop). stop.member == member) s.stops)
act_events s StartOpening = Began (Call Opening stage.Ordinary) ∷ []
act_events s StartIntraday = Began (Call Intraday stage.Ordinary) ∷ []
act_events s StartClosing = Began (Call Closing stage.Ordinary) ∷ []
act_events s Uncross = uncross_events s s.phase
act_events s EndDay = end_events s

-- the first of the pending stops comes in, and what follows goes on from there
abbrev pub pending_events : (State → List Stop → List Event) → State → List Stop → List Event
pending_events more s [] = []
pending_events more s (stop ∷ stops) = Triggered stop ∷ (come_events s (order_of_stop stop) ++ more (come s (order_of_stop stop)) stops)

abbrev pub settle_in_events : ℕ → State → List Stop → List Event
settle_in_events zero s pending = []
settle_in_events (suc turns) s pending = pending_events (settle_in_events turns) (released s) (pending ++ reached s)

-- the stops that are reached come in, until none is pending
abbrev pub settle_events : State → List Stop → List Event
settle_events s pending = settle_in_events (length s.stops + length pending) s pending

-- what happens by an accepted command
unfoldable pub story : State → Command → List Event
story s command = act_events s command ++ settle_events (act s command) []

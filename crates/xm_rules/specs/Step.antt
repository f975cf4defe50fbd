-- The step of a state by an accepted command, with its reply; lawful journals, and the replay of a journal.
use Rattle.std.specs.Prelude.{ℕ, ◌+◌, ◌==◌, Bool, true, false, ◌&&◌, if◌then◌else◌, nat_le, List, [], ◌∷◌, ◌++◌, length, filter, drop, find, is_none, Option, Some, None}
use Rattle.xm_rules.specs.Allotment.{Uncrossing, auction_trades, orders_after_call}
use Rattle.xm_rules.specs.Auction.{auction_price}
use Rattle.xm_rules.specs.Commands.{order_kind, trigger_of, outlasts}
use Rattle.xm_rules.specs.Opening.{are_carriable, opening}
use Rattle.xm_rules.specs.Orders.{is_named, removed, removed_stop, with_rest, without_member, without_stops_of}
use Rattle.xm_rules.specs.Refusals.{refusal_of}
use Rattle.xm_rules.specs.Settling.{come, swept, sweep_of, settle}
use Rattle.xm_rules.specs.State.{Ranges, State, ref1, ranges, inside_both, inside_wide}
use Rattle.xm_rules.specs.Sums.{total_quantity, total_money}
use Rattle.xm_rules.specs.Sweep.{is_fillable}
use Rattle.xm_rules.specs.declared.commands.Command.{Command}
use Rattle.xm_rules.specs.declared.commands.Command.TheVariants.{Enter, Change, Cancel, CancelAll, StartOpening, StartIntraday, StartClosing, Uncross, EndDay}
use Rattle.xm_rules.specs.declared.commands.Condition.{Condition}
use Rattle.xm_rules.specs.declared.commands.Condition.TheVariants.{Plain, Ioc, Fok, Boc}
use Rattle.xm_rules.specs.declared.commands.Kind.{Kind}
use Rattle.xm_rules.specs.declared.orders.Order.{Order}
use Rattle.xm_rules.specs.declared.orders.OrderKind.{OrderKind}
use Rattle.xm_rules.specs.declared.orders.OrderKind.TheVariants.{Market, Limit}
use Rattle.xm_rules.specs.declared.orders.Restriction.{Restriction}
use Rattle.xm_rules.specs.declared.orders.Side.{Side}
use Rattle.xm_rules.specs.declared.orders.Stop.{Stop}
use Rattle.xm_rules.specs.declared.orders.Trade.{Trade}
use Rattle.xm_rules.specs.declared.orders.Validity.{Validity}
use Rattle.xm_rules.specs.declared.phases.Auction.{Auction}
use Rattle.xm_rules.specs.declared.phases.Auction.TheVariants.{Opening, Intraday, Closing}
use Rattle.xm_rules.specs.declared.phases.CallStage.{CallStage}
use Rattle.xm_rules.specs.declared.phases.CallStage.TheVariants.{Ordinary, Interrupted, Extended}
use Rattle.xm_rules.specs.declared.phases.Phase.{Phase}
use Rattle.xm_rules.specs.declared.phases.Phase.TheVariants.{Call, Continuous, PostTrading, Ended}
use Rattle.xm_rules.specs.declared.replies.Reply.{Reply}
use Rattle.xm_rules.specs.declared.settings.DeskSettings.{DeskSettings}

-- an immediate-or-cancel order is swept, as the checks let it come only free and in continuous trading, and its rest is deleted;
-- a fill-or-kill order comes in only where it can be executed whole; a book-or-cancel order comes in like one without a condition, as the
-- checks let it come only where it meets no order
abbrev pub come_under : Condition → State → Order → State
come_under Plain s o = come s o
come_under Ioc s o = swept s o
come_under Fok s o = if is_fillable (sweep_of s o) then come s o else s
come_under Boc s o = come s o

-- the order of an entry, or the one that its stop becomes
abbrev pub entered_order : ℕ → ℕ → Side → Kind → ℕ → Validity → Restriction → Order
entered_order member reference side kind quantity validity restriction =
    record { member = member; reference = reference; side = side; kind = order_kind kind; rest = quantity; validity = validity; restriction = restriction }

abbrev pub stop_of : ℕ → Order → Stop
stop_of trigger o =
    record { member = o.member; reference = o.reference; side = o.side; trigger = trigger; becomes = o.kind; quantity = o.rest; validity = o.validity }

-- a stop joins the held ones last; an order comes in on its condition
abbrev pub entered : State → Condition → Option ℕ → Order → State
entered s condition None o = come_under condition s o
entered s condition (Some trigger) o = record s { stops = s.stops ++ stop_of trigger o ∷ [] }

abbrev pub same_limit : Option ℕ → OrderKind → Bool
same_limit None kind = true
same_limit (Some p) Market = false
same_limit (Some p) (Limit q) = p == q

abbrev pub changed_kind : Option ℕ → OrderKind → OrderKind
changed_kind None kind = kind
changed_kind (Some p) kind = Limit p

-- the order, or the stop, of this name is deleted
abbrev pub cancelled : State → ℕ → ℕ → State
cancelled s member reference = record s { orders = removed member reference s.orders; stops = removed_stop member reference s.stops }

-- all orders and stops of the member are
abbrev pub all_cancelled : State → ℕ → State
all_cancelled s member = record s { orders = without_member member s.orders; stops = without_stops_of member s.stops }

-- with the same limit and no higher quantity a changed order keeps its position in the time list, and so its priority
abbrev pub keeps_priority : ℕ → Option ℕ → Order → Bool
keeps_priority quantity limit o = same_limit limit o.kind && nat_le quantity o.rest

abbrev pub reduced : State → ℕ → Order → State
reduced s quantity o = record s { orders = with_rest o.member o.reference quantity s.orders }

-- else it leaves the list and comes in again, with its validity and its restriction
abbrev pub changed_order : ℕ → Option ℕ → Order → Order
changed_order quantity limit o = record o { kind = changed_kind limit o.kind; rest = quantity }

abbrev pub replaced : State → Order → Order → State
replaced s o again = come (cancelled s o.member o.reference) again

-- an order takes a new quantity, and a new limit where one is given
abbrev pub changed : State → ℕ → Option ℕ → Option Order → State
changed s quantity limit None = s
changed s quantity limit (Some o) = if keeps_priority quantity limit o then reduced s quantity o else replaced s o (changed_order quantity limit o)

-- after a call comes post-trading, if it was the closing call, and else continuous trading
abbrev pub next_phase : Auction → Phase
next_phase Closing = PostTrading
next_phase _ = Continuous

-- the trades of a price determination, which takes the next number
abbrev pub traded : State → Uncrossing → State
traded s u =
    record s { phase = next_phase u.auction; orders = orders_after_call u; trades = s.trades ++ auction_trades (s.sweeps + 1) u; sweeps = s.sweeps + 1 }

-- the stage to which a price outside a range that a stage asks leads: an ordinary call asks the dynamic and the static range, an
-- interrupted one the wide range, an extended one none
abbrev pub stage_after : Ranges → CallStage → ℕ → Option CallStage
stage_after r Ordinary price = if inside_both r price then None else Some Interrupted
stage_after r Interrupted price = if inside_wide r price then None else Some Extended
stage_after r Extended price = None

-- a call that has a price goes on in that stage, or else it trades and ends
abbrev pub determined : State → Uncrossing → Option CallStage → State
determined s u None = traded s u
determined s u (Some stage) = record s { phase = Call u.auction stage }

-- a call without a price ends without a trade, whatever its stage
abbrev pub uncrossed_at : State → Auction → CallStage → Option (ℕ × ℕ) → State
uncrossed_at s auction stage None = record s { phase = next_phase auction }
uncrossed_at s auction stage (Some priced) =
    determined s (record { auction = auction; stage = stage; orders = s.orders; price = priced.0; volume = priced.1 }) (stage_after (ranges s) stage priced.0)

abbrev pub uncrossed : State → Phase → State
uncrossed s (Call auction stage) = uncrossed_at s auction stage (auction_price (Call auction stage) s.orders (ref1 s))
uncrossed s _ = s

-- at the end of the day orders and stops are deleted that are not valid beyond it
abbrev pub day_ended : State → State
day_ended s =
    let today = s.settings.today in
    record s { phase = Ended; orders = filter (λ (o : Order). outlasts today o.validity) s.orders; stops = filter (λ (stop : Stop). outlasts today stop.validity) s.stops }

-- what a command does, before the stops that it reached are settled
abbrev pub act : State → Command → State
act s (Enter member reference side kind quantity validity restriction condition) =
    entered s condition (trigger_of kind) (entered_order member reference side kind quantity validity restriction)
act s (Change member reference quantity limit) = changed s quantity limit (find (is_named member reference) s.orders)
act s (Cancel member reference) = cancelled s member reference
act s (CancelAll member) = all_cancelled s member
act s StartOpening = record s { phase = Call Opening Ordinary }
act s StartIntraday = record s { phase = Call Intraday Ordinary }
act s StartClosing = record s { phase = Call Closing Ordinary }
act s Uncross = uncrossed s s.phase
act s EndDay = day_ended s

-- the state after an accepted command
unfoldable pub step : State → Command → State
step s command = let t = settle (act s command) [] in record t { accepted = s.accepted + 1 }

-- the trades that a later state has more than an earlier one
abbrev pub new_trades : State → State → List Trade
new_trades s t = drop (length s.trades) t.trades

-- the reply to a command that led from one state to the next
unfoldable pub reply : State → State → Reply
reply s t =
    let trades = new_trades s t in
    record { version = t.accepted; first_trade = length s.trades; trades = length trades; quantity = total_quantity trades; money = total_money trades; phase = t.phase }

-- the state after a list of commands
abbrev pub replay_from : State → List Command → State
replay_from s [] = s
replay_from s (c ∷ cs) = replay_from (step s c) cs

-- each command is one that the state before it doesn't refuse
abbrev pub is_lawful_from : State → List Command → Bool
is_lawful_from s [] = true
is_lawful_from s (c ∷ cs) = is_none (refusal_of s c) && is_lawful_from (step s c) cs

-- a journal is its settings and the accepted commands
pub record Journal : Type 0 where
  pub settings : DeskSettings
  pub commands : List Command

unfoldable pub replay : Journal → State
replay j = replay_from (opening j.settings) j.commands

-- its settings carry what a security takes, and each of its commands is one that the state before it doesn't refuse
unfoldable pub is_lawful : Journal → Bool
is_lawful j = are_carriable j.settings && is_lawful_from (opening j.settings) j.commands

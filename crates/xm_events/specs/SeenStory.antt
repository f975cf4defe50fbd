-- The story of a command, put together from what is seen after it: the trades that it added, with the numbers of their sweeps, the
-- stops that it triggered, and the price of an interruption. Its fills are bare. Of the state before it asks its phase, its number of
-- sweeps, its reference prices, its settings, and the orders and stops that the command names; of the state after it the number of
-- sweeps and the phase.
use Rattle.std.specs.Prelude.{ℕ, ◌+◌, ◌-◌, ◌==◌, if◌then◌else◌, List, [], ◌∷◌, ◌++◌, drop, find, map, Option, Some, None}
use Rattle.std.specs.List.{flat_map, prefix_len, take_while}
use Rattle.xm_events.specs.Life.{both_sides}
use Rattle.xm_events.specs.Seen.{Seen}
use Rattle.xm_events.specs.Story.{act_events, interrupted_events, killed_events, range_left_at}
use Rattle.xm_events.specs.declared.events.Deletion.TheVariants.{FillOrKill}
use Rattle.xm_events.specs.declared.events.Entry.TheVariants as entry
use Rattle.xm_events.specs.declared.events.Event.{Event}
use Rattle.xm_events.specs.declared.events.Event.TheVariants.{Accepted, Changed, Filled, Triggered, Deleted, Interrupted, Began}
use Rattle.xm_events.specs.declared.events.Fill.{Fill}
use Rattle.xm_rules.specs.Commands.{trigger_of}
use Rattle.xm_rules.specs.Orders.{is_named}
use Rattle.xm_rules.specs.State.{Ranges, State, last_price, ranges, ref1}
use Rattle.xm_rules.specs.Step.{changed_order, entered_order, keeps_priority, next_phase, stop_of}
use Rattle.xm_rules.specs.Sums.{total_quantity}
use Rattle.xm_rules.specs.declared.commands.Command.{Command}
use Rattle.xm_rules.specs.declared.commands.Command.TheVariants.{Enter, Change, Cancel, CancelAll, StartOpening, StartIntraday, StartClosing, Uncross, EndDay}
use Rattle.xm_rules.specs.declared.commands.Condition.{Condition}
use Rattle.xm_rules.specs.declared.commands.Condition.TheVariants.{Plain, Ioc, Fok, Boc}
use Rattle.xm_rules.specs.declared.orders.Order.{Order}
use Rattle.xm_rules.specs.declared.orders.Stop.{Stop}
use Rattle.xm_rules.specs.declared.orders.Trade.{Trade}
use Rattle.xm_rules.specs.declared.phases.Auction.{Auction}
use Rattle.xm_rules.specs.declared.phases.CallStage.{CallStage}
use Rattle.xm_rules.specs.declared.phases.Phase.{Phase}
use Rattle.xm_rules.specs.declared.phases.Phase.TheVariants.{Call}
use Rattle.xm_rules.specs.declared.settings.Widths.{Widths}

-- ---- trades by their numbers

-- how many trades at the front are of the sweep, or the call, of this number
abbrev pub numbered_so : ℕ → List Trade → ℕ
numbered_so number trades = prefix_len (λ (t : Trade). t.sweep == number) trades

-- those, and the ones behind them
abbrev pub trades_numbered : ℕ → List Trade → List Trade
trades_numbered number trades = take_while (λ (t : Trade). t.sweep == number) trades

abbrev pub trades_behind : ℕ → List Trade → List Trade
trades_behind number trades = drop (numbered_so number trades) trades

-- both sides of each of these trades
abbrev pub bare_fills : List Trade → List Event
bare_fills trades = map (λ (f : Fill). Filled f) (flat_map both_sides trades)

-- ---- orders that come in

-- what is the same for all orders that come in by a command
pub record Outcome : Type 0 where
  pub widths : Widths
  -- the number of sweeps and of price determinations that traded, behind the command
  pub last : ℕ
  -- the price of an interruption, where there was one
  pub interruption : Option ℕ

-- an order comes in, at this last price, and takes this number, if it is swept: the trades of that number are its own. A price that
-- interrupted trading did so by the last sweep, and the range that it left doesn't depend on the last auction price: any price stands for
-- that. Where the order isn't swept, no trade bears the number, and it isn't the last
abbrev pub arrival : Outcome → ℕ → ℕ → List Trade → List Event
arrival outcome number last trades =
    bare_fills (trades_numbered number trades)
    ++ (if number == outcome.last then interrupted_events (record { ref1 = last; ref2 = last; widths = outcome.widths }) outcome.interruption else [])

-- these stops come in one after the other, from this number on
abbrev pub arrivals : Outcome → ℕ → ℕ → List Trade → List Stop → List Event
arrivals outcome number last trades [] = []
arrivals outcome number last trades (stop ∷ stops) =
    Triggered stop ∷ (arrival outcome number last trades ++ arrivals outcome (number + 1) (last_price last (trades_numbered number trades)) (trades_behind number trades) stops)

-- ---- the command itself

-- its own order takes the number that follows this number of sweeps
abbrev pub own_arrival : Outcome → ℕ → ℕ → List Trade → List Event
own_arrival outcome sweeps last trades = arrival outcome (sweeps + 1) last trades

-- what is left of an immediate order is what its trades leave of it; a fill-or-kill order that took no number was deleted whole
abbrev pub arrival_under : Condition → Outcome → ℕ → ℕ → Order → List Trade → List Event
arrival_under Plain outcome sweeps last o trades = own_arrival outcome sweeps last trades
arrival_under Ioc outcome sweeps last o trades = own_arrival outcome sweeps last trades ++ killed_events (o.rest - total_quantity (trades_numbered (sweeps + 1) trades)) o
arrival_under Fok outcome sweeps last o trades = if outcome.last == sweeps then Deleted (entry.Order o) FillOrKill ∷ [] else own_arrival outcome sweeps last trades
arrival_under Boc outcome sweeps last o trades = own_arrival outcome sweeps last trades

abbrev pub seen_entry : Outcome → ℕ → ℕ → Condition → Option ℕ → Order → List Trade → List Event
seen_entry outcome sweeps last condition None o trades = Accepted (entry.Order o) ∷ arrival_under condition outcome sweeps last o trades
seen_entry outcome sweeps last condition (Some trigger) o trades = Accepted (entry.Stop (stop_of trigger o)) ∷ []

abbrev pub seen_change : Outcome → ℕ → ℕ → ℕ → Option ℕ → Option Order → List Trade → List Event
seen_change outcome sweeps last quantity limit None trades = []
seen_change outcome sweeps last quantity limit (Some o) trades =
    if keeps_priority quantity limit o then Changed (record o { rest = quantity }) ∷ [] else Changed (changed_order quantity limit o) ∷ own_arrival outcome sweeps last trades

-- a call that doesn't trade ends without a price, or goes on in the phase that follows
abbrev pub untraded : Ranges → Auction → CallStage → Option ℕ → Phase → List Event
untraded r auction stage None phase = Began (next_phase auction) ∷ []
untraded r auction stage (Some price) phase = Interrupted price (range_left_at stage r price) ∷ Began phase ∷ []

-- a call trades where it takes the number that follows this number of sweeps
abbrev pub seen_uncross : Outcome → ℕ → Ranges → Phase → List Trade → Phase → List Event
seen_uncross outcome sweeps r (Call auction stage) trades phase =
    if outcome.last == sweeps
    then untraded r auction stage outcome.interruption phase
    else bare_fills (trades_numbered (sweeps + 1) trades) ++ Began (next_phase auction) ∷ []
seen_uncross outcome sweeps r _ trades phase = []

-- each other command trades nothing, and tells what it does
abbrev pub seen_own : Outcome → State → Command → List Trade → Phase → List Event
seen_own outcome s (Enter member reference side kind quantity validity restriction condition) trades phase =
    seen_entry outcome s.sweeps (ref1 s) condition (trigger_of kind) (entered_order member reference side kind quantity validity restriction) trades
seen_own outcome s (Change member reference quantity limit) trades phase = seen_change outcome s.sweeps (ref1 s) quantity limit (find (is_named member reference) s.orders) trades
seen_own outcome s Uncross trades phase = seen_uncross outcome s.sweeps (ranges s) s.phase trades phase
seen_own outcome s (Cancel member reference) trades phase = act_events s (Cancel member reference)
seen_own outcome s (CancelAll member) trades phase = act_events s (CancelAll member)
seen_own outcome s StartOpening trades phase = act_events s StartOpening
seen_own outcome s StartIntraday trades phase = act_events s StartIntraday
seen_own outcome s StartClosing trades phase = act_events s StartClosing
seen_own outcome s EndDay trades phase = act_events s EndDay

-- what is the same for all that comes in between two states
abbrev pub outcome_of : State → Seen → State → Outcome
outcome_of s seen t = record { widths = s.settings.widths; last = t.sweeps; interruption = seen.interruption }

-- what happened between two states by a command that added these trades: what it did itself, and then the stops that came in, from the
-- next number but one on
unfoldable pub seen_story : State → Command → Seen → List Trade → State → List Event
seen_story s command seen trades t =
    let outcome = outcome_of s seen t in
    let number = s.sweeps + 1 in
    seen_own outcome s command trades t.phase
    ++ arrivals outcome (number + 1) (last_price (ref1 s) (trades_numbered number trades)) (trades_behind number trades) seen.triggered

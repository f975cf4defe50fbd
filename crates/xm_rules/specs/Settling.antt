-- Orders coming in, and stops: which are reached, and how they are taken until none is pending.
use Rattle.std.specs.Prelude.{ℕ, ◌+◌, ◌==◌, suc, zero, Bool, true, false, ◌&&◌, not, if◌then◌else◌, List, [], ◌∷◌, ◌++◌, length, filter}
use Rattle.xm_rules.specs.Sides.{reaches}
use Rattle.xm_rules.specs.State.{State, ref1, ranges}
use Rattle.xm_rules.specs.Sweep.{Sweep, is_interrupted, rest_after, sweep_trades, orders_after_sweep}
use Rattle.xm_rules.specs.declared.orders.Order.{Order}
use Rattle.xm_rules.specs.declared.orders.Restriction.{Restriction}
use Rattle.xm_rules.specs.declared.orders.Restriction.TheVariants.{Free}
use Rattle.xm_rules.specs.declared.orders.Stop.{Stop}
use Rattle.xm_rules.specs.declared.phases.Auction.TheVariants.{Interruption}
use Rattle.xm_rules.specs.declared.phases.CallStage.TheVariants.{Interrupted}
use Rattle.xm_rules.specs.declared.phases.Phase.{Phase}
use Rattle.xm_rules.specs.declared.phases.Phase.TheVariants.{Call, Continuous}

abbrev pub is_continuous : Phase → Bool
is_continuous Continuous = true
is_continuous _ = false

abbrev pub is_free : Restriction → Bool
is_free Free = true
is_free _ = false

abbrev pub sweep_of : State → Order → Sweep
sweep_of s o = record { ranges = ranges s; orders = s.orders; incoming = o }

-- the state after a sweep, which takes the next number, with or without trades; an interrupted one ends continuous trading
abbrev pub swept : State → Order → State
swept s o =
    let w = sweep_of s o in
    record s {
      phase = if is_interrupted w then Call Interruption Interrupted else s.phase;
      orders = orders_after_sweep w;
      trades = s.trades ++ sweep_trades (s.sweeps + 1) w;
      sweeps = s.sweeps + 1;
    }

abbrev pub joined : State → Order → State
joined s o = record s { orders = s.orders ++ o ∷ [] }

-- in continuous trading a free order is swept and what rests of it joins the time list last; else the order joins last
abbrev pub come : State → Order → State
come s o =
    let rest = rest_after (sweep_of s o) in
    if is_continuous s.phase && is_free o.restriction
    then (if rest == 0 then swept s o else joined (swept s o) (record o { rest = rest }))
    else joined s o

-- the last price is at or above the trigger of a buy stop, at or below that of a sell stop
abbrev pub is_reached : ℕ → Stop → Bool
is_reached last stop = reaches stop.side last stop.trigger

abbrev pub reached : State → List Stop
reached s = filter (is_reached (ref1 s)) s.stops

-- the state without its reached stops
abbrev pub released : State → State
released s = record s { stops = filter (λ stop. not (is_reached (ref1 s) stop)) s.stops }

-- the free order that a stop becomes
abbrev pub order_of_stop : Stop → Order
order_of_stop stop =
    record { member = stop.member; reference = stop.reference; side = stop.side; kind = stop.becomes; rest = stop.quantity; validity = stop.validity; restriction = Free }

-- the first of the pending stops comes in, and what follows goes on from there
abbrev pub take_pending : (State → List Stop → State) → State → List Stop → State
take_pending more s [] = s
take_pending more s (stop ∷ stops) = more (come s (order_of_stop stop)) stops

-- each turn takes one stop, so as many turns as there are stops, held and pending, suffice:
-- the reached stops leave the held ones and go to the end of the pending ones; then the first of these comes in
abbrev pub settle_in : ℕ → State → List Stop → State
settle_in zero s pending = s
settle_in (suc turns) s pending = take_pending (settle_in turns) (released s) (pending ++ reached s)

abbrev pub settle : State → List Stop → State
settle s pending = settle_in (length s.stops + length pending) s pending

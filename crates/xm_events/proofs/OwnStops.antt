-- No command triggers a stop by itself: those that it reached come in behind it.
use Rattle.std.proofs.Common.{◌≡◌, ℕ, ◌+◌, ◌==◌, Bool, true, false, ◌&&◌, not, if◌then◌else◌, List, [], ◌∷◌, ◌++◌, append-nil, filter, find, Option, Some, None, refl, sym, ap, ◌∙◌}
use Rattle.xm_events.specs.Story.{act_events, change_events, come_events, come_under_events, determined_events, entry_events, killed_events, leave_events, rest_in, sweep_events, uncross_at_events, uncross_events}
use Rattle.xm_events.specs.declared.events.Deletion.TheVariants.{EndOfDay, FillOrKill}
use Rattle.xm_events.specs.declared.events.Entry.{Entry}
use Rattle.xm_events.specs.declared.events.Entry.TheVariants as entry
use Rattle.xm_events.specs.declared.events.Event.{Event}
use Rattle.xm_events.specs.declared.events.Event.TheVariants.{Began, Cancelled, Changed, Deleted}
use Rattle.xm_rules.specs.Allotment.{Uncrossing, auction_trades, orders_after_call}
use Rattle.xm_rules.specs.Auction.{auction_price}
use Rattle.xm_rules.specs.Commands.{outlasts, trigger_of}
use Rattle.xm_rules.specs.Orders.{is_named, is_stop_named}
use Rattle.xm_rules.specs.Settling.{is_continuous, is_free, sweep_of}
use Rattle.xm_rules.specs.State.{State, ranges, ref1}
use Rattle.xm_rules.specs.Step.{cancelled, changed_order, entered_order, keeps_priority, next_phase, stage_after}
use Rattle.xm_rules.specs.Sweep.{is_fillable, rest_after}
use Rattle.xm_rules.specs.declared.commands.Command.{Command}
use Rattle.xm_rules.specs.declared.commands.Command.TheVariants.{Enter, Change, Cancel, CancelAll, StartOpening, StartIntraday, StartClosing, Uncross, EndDay}
use Rattle.xm_rules.specs.declared.commands.Condition.{Condition}
use Rattle.xm_rules.specs.declared.commands.Condition.TheVariants.{Plain, Ioc, Fok, Boc}
use Rattle.xm_rules.specs.declared.orders.Order.{Order}
use Rattle.xm_rules.specs.declared.orders.Stop.{Stop}
use Rattle.xm_rules.specs.declared.phases.CallStage.{CallStage}
use Rattle.xm_rules.specs.declared.phases.Phase.{Phase}
use Rattle.xm_rules.specs.declared.phases.Phase.TheVariants.{Call, Ended}
use Rattle.xm_rules.proofs.CallTrades.{call_of}
use Rattle.xm_events.proofs.InEvents.{fills-tell_no_stop, killed-stops, leaving-stops, stops-append, stops_told, sweeping-stops}

coming_stops : (s : State) (o : Order) → stops_told (come_events s o) ≡ []
coming_stops s o = by (is_continuous s.phase && is_free o.restriction) where
  by : (b : Bool) → stops_told (if b then sweep_events s o else []) ≡ []
  by true = sweeping-stops s o
  by false = refl

condition_stops : (condition : Condition) (s : State) (o : Order) → stops_told (come_under_events condition s o) ≡ []
condition_stops Plain s o = coming_stops s o
condition_stops Ioc s o =
    let n = rest_after (sweep_of s o) in
    stops-append (sweep_events s o) (killed_events n o) ∙ ap (λ (stops : List Stop). stops ++ stops_told (killed_events n o)) (sweeping-stops s o) ∙ killed-stops n o
condition_stops Fok s o = by (is_fillable (sweep_of s o)) where
  by : (b : Bool) → stops_told (if b then come_events s o else Deleted (entry.Order o) FillOrKill ∷ []) ≡ []
  by true = coming_stops s o
  by false = refl
condition_stops Boc s o = coming_stops s o

entry_stops : (s : State) (condition : Condition) (trigger : Option ℕ) (o : Order) → stops_told (entry_events s condition trigger o) ≡ []
entry_stops s condition None o = condition_stops condition s o
entry_stops s condition (Some trigger) o = refl

change_stops : (s : State) (quantity : ℕ) (limit : Option ℕ) (found : Option Order) → stops_told (change_events s quantity limit found) ≡ []
change_stops s quantity limit None = refl
change_stops s quantity limit (Some o) = by (keeps_priority quantity limit o) where
  by : (b : Bool)
      → stops_told (if b then Changed (record o { rest = quantity }) ∷ [] else Changed (changed_order quantity limit o) ∷ come_events (cancelled s o.member o.reference) (changed_order quantity limit o)) ≡ []
  by true = refl
  by false = coming_stops (cancelled s o.member o.reference) (changed_order quantity limit o)

leaving_none : (gone : Entry → Event) → ((e : Entry) (es : List Event) → stops_told (gone e ∷ es) ≡ stops_told es) → (orders : List Order) (stops : List Stop) → stops_told (leave_events gone orders stops) ≡ []
leaving_none gone none orders stops = ap stops_told (sym (append-nil (leave_events gone orders stops))) ∙ leaving-stops gone none orders stops []

determined_stops : (s : State) (u : Uncrossing) (next : Option CallStage) → stops_told (determined_events s u next) ≡ []
determined_stops s u None = fills-tell_no_stop (rest_in (orders_after_call u)) (auction_trades (s.sweeps + 1) u) (Began (next_phase u.auction) ∷ [])
determined_stops s u (Some stage) = refl

uncross_stops : (s : State) (phase : Phase) → stops_told (uncross_events s phase) ≡ []
uncross_stops s (Call auction stage) = by (auction_price (Call auction stage) s.orders (ref1 s)) where
  by : (priced : Option (ℕ × ℕ)) → stops_told (uncross_at_events s auction stage priced) ≡ []
  by None = refl
  by (Some priced) = determined_stops s (call_of s auction stage priced) (stage_after (ranges s) stage priced.0)
uncross_stops s _ = refl

pub own_stops : (s : State) (c : Command) → stops_told (act_events s c) ≡ []
own_stops s (Enter member reference side kind quantity validity restriction condition) =
    entry_stops s condition (trigger_of kind) (entered_order member reference side kind quantity validity restriction)
own_stops s (Change member reference quantity limit) = change_stops s quantity limit (find (is_named member reference) s.orders)
own_stops s (Cancel member reference) = leaving_none Cancelled (λ e es. refl) (filter (is_named member reference) s.orders) (filter (is_stop_named member reference) s.stops)
own_stops s (CancelAll member) = leaving_none Cancelled (λ e es. refl) (filter (λ (o : Order). o.member == member) s.orders) (filter (λ (stop : Stop). stop.member == member) s.stops)
own_stops s StartOpening = refl
own_stops s StartIntraday = refl
own_stops s StartClosing = refl
own_stops s Uncross = uncross_stops s s.phase
own_stops s EndDay =
    leaving-stops (λ gone. Deleted gone EndOfDay) (λ e es. refl) (filter (λ (o : Order). not (outlasts s.settings.today o.validity)) s.orders)
    (filter (λ (stop : Stop). not (outlasts s.settings.today stop.validity)) s.stops) (Began Ended ∷ [])

-- The story of a command is told by what is seen after it.
use Rattle.std.proofs.Common.{◌≡◌, ◌+◌, ◌==◌, Bool, true, false, ◌&&◌, ◌||◌, not, List, [], ◌∷◌, ◌++◌, drop, drop_at, filter, find, length, map, None, refl, sym, ap, ap₂, ◌∙◌}
use Rattle.std.proofs.lemmas.List.{map-append}
use Rattle.xm_events.specs.Life.{bare, units_named, with_rests}
use Rattle.xm_events.specs.Seen.{Seen, seen_of}
use Rattle.xm_events.specs.Story.{act_events, leave_events, settle_events, story}
use Rattle.xm_events.specs.SeenStory.{Outcome, arrivals, trades_behind, trades_numbered, outcome_of, seen_story, seen_own}
use Rattle.xm_events.specs.declared.events.Deletion.TheVariants.{EndOfDay}
use Rattle.xm_events.specs.declared.events.Entry.{Entry}
use Rattle.xm_events.specs.declared.events.Event.{Event}
use Rattle.xm_events.specs.declared.events.Event.TheVariants.{Began, Cancelled, Deleted}
use Rattle.xm_rules.specs.Commands.{is_bad_combination, is_for_trading, is_stop, outlasts, trigger_of}
use Rattle.xm_rules.specs.Orders.{is_named, is_stop_named}
use Rattle.xm_rules.specs.Refusals.{refusal_of}
use Rattle.xm_rules.specs.Settling.{is_continuous, is_free, is_reached}
use Rattle.xm_rules.specs.State.{State, last_price, ref1}
use Rattle.xm_rules.specs.Step.{Journal, act, entered_order, is_lawful, new_trades, replay, step}
use Rattle.xm_rules.specs.declared.commands.Command.{Command}
use Rattle.xm_rules.specs.declared.commands.Command.TheVariants.{Enter, Change, Cancel, CancelAll, StartOpening, StartIntraday, StartClosing, Uncross, EndDay}
use Rattle.xm_rules.specs.declared.commands.Condition.{Condition}
use Rattle.xm_rules.specs.declared.commands.Condition.TheVariants.{Plain, Ioc, Fok, Boc}
use Rattle.xm_rules.specs.declared.commands.Kind.{Kind}
use Rattle.xm_rules.specs.declared.orders.Order.{Order}
use Rattle.xm_rules.specs.declared.orders.Restriction.{Restriction}
use Rattle.xm_rules.specs.declared.orders.Stop.{Stop}
use Rattle.xm_rules.specs.declared.orders.Trade.{Trade}
use Rattle.xm_rules.specs.declared.phases.Phase.{Phase}
use Rattle.xm_rules.specs.declared.phases.Phase.TheVariants.{Ended}
use Rattle.xm_rules.proofs.Accepted.{entry-accepted}
use Rattle.xm_rules.proofs.DayLimits.{kept}
use Rattle.xm_rules.proofs.ReachedStops.{NoneReached, none_reached}
use Rattle.xm_events.proofs.InEvents.{bare_leaving, price-append, price_told, seen-is, stops-append, stops_told}
use Rattle.xm_events.proofs.OwnStops.{own_stops}
use Rattle.xm_events.proofs.Rests.{story_of_bare}
use Rattle.xm_events.proofs.Told.{story_tells}
use Rattle.xm_events.proofs.SeenCalls.{uncrossing_seen}
use Rattle.xm_events.proofs.SeenOrders.{changing_seen, entering_seen, none_of, none_of_fewer}
use Rattle.xm_events.proofs.SeenParts.{Fits, IsSeenSo, quietly}

-- ---- what a command did itself

both_so : (stop free trading : Bool) → (stop || not free) ≡ false → not trading ≡ false → (trading && free) ≡ true
both_so true free trading h e = absurd (cc)
both_so false false trading h e = absurd (cc)
both_so false true true h e = refl
both_so false true false h e = absurd (cc)

-- a fill-or-kill order that is accepted is free, in continuous trading
whole_sweeps : (condition : Condition) (kind : Kind) (restriction : Restriction) (phase : Phase) → is_bad_combination condition kind restriction ≡ false
    → (is_for_trading condition && not (is_continuous phase)) ≡ false → condition ≡ Fok → (is_continuous phase && is_free restriction) ≡ true
whole_sweeps Plain kind restriction phase combined in_phase e = absurd (cc)
whole_sweeps Ioc kind restriction phase combined in_phase e = absurd (cc)
whole_sweeps Fok kind restriction phase combined in_phase e = both_so (is_stop (trigger_of kind)) (is_free restriction) (is_continuous phase) combined in_phase
whole_sweeps Boc kind restriction phase combined in_phase e = absurd (cc)

acting_seen : (s : State) (c : Command) (outcome : Outcome) (trades : List Trade) (phase : Phase) → refusal_of s c ≡ None → NoneReached s → Fits s (act s c) (act_events s c) outcome trades phase
    → IsSeenSo s (act s c) (act_events s c) (seen_own outcome s c trades phase) outcome trades
acting_seen s (Enter member reference side kind quantity validity restriction condition) outcome trades phase accepted none fits =
    let passes = entry-accepted s member reference side kind quantity validity restriction condition accepted in
    entering_seen s condition (trigger_of kind) (entered_order member reference side kind quantity validity restriction) outcome trades phase none
    (whole_sweeps condition kind restriction s.phase passes.combined passes.in_phase) passes.not_reached fits
acting_seen s (Change member reference quantity limit) outcome trades phase accepted none fits =
    changing_seen s quantity limit (find (is_named member reference) s.orders) outcome trades phase none fits
acting_seen s (Cancel member reference) outcome trades phase accepted none fits =
    let c = Cancel member reference in
    quietly s (act s c) (act_events s c) outcome trades phase fits
    (record { trades = refl; sweeps = refl; none = none_of_fewer s (λ (stop : Stop). not (is_stop_named member reference stop)) none }) (act_events s c)
    (bare_leaving Cancelled (λ e. refl) (filter (is_named member reference) s.orders) (filter (is_stop_named member reference) s.stops))
acting_seen s (CancelAll member) outcome trades phase accepted none fits =
    let c = CancelAll member in
    quietly s (act s c) (act_events s c) outcome trades phase fits
    (record { trades = refl; sweeps = refl; none = none_of_fewer s (λ (stop : Stop). not (stop.member == member)) none }) (act_events s c)
    (bare_leaving Cancelled (λ e. refl) (filter (λ (o : Order). o.member == member) s.orders) (filter (λ (stop : Stop). stop.member == member) s.stops))
acting_seen s Uncross outcome trades phase accepted none fits = uncrossing_seen s s.phase outcome trades phase none fits
acting_seen s EndDay outcome trades phase accepted none fits =
    let today = s.settings.today in
    let gone = λ (e : Entry). Deleted e EndOfDay in
    let orders = filter (λ (o : Order). not (outlasts today o.validity)) s.orders in
    let stops = filter (λ (stop : Stop). not (outlasts today stop.validity)) s.stops in
    quietly s (act s EndDay) (act_events s EndDay) outcome trades phase fits
    (record { trades = refl; sweeps = refl; none = none_of_fewer s (λ (stop : Stop). outlasts today stop.validity) none }) (act_events s EndDay)
    (map-append bare (leave_events gone orders stops) (Began Ended ∷ []) ∙ ap (λ (es : List Event). es ++ Began Ended ∷ []) (bare_leaving gone (λ e. refl) orders stops))
acting_seen s StartOpening outcome trades phase accepted none fits =
    quietly s (act s StartOpening) (act_events s StartOpening) outcome trades phase fits (record { trades = refl; sweeps = refl; none = none_of (is_reached (ref1 s)) s.stops none }) (act_events s StartOpening) refl
acting_seen s StartIntraday outcome trades phase accepted none fits =
    quietly s (act s StartIntraday) (act_events s StartIntraday) outcome trades phase fits (record { trades = refl; sweeps = refl; none = none_of (is_reached (ref1 s)) s.stops none }) (act_events s StartIntraday) refl
acting_seen s StartClosing outcome trades phase accepted none fits =
    quietly s (act s StartClosing) (act_events s StartClosing) outcome trades phase fits (record { trades = refl; sweeps = refl; none = none_of (is_reached (ref1 s)) s.stops none }) (act_events s StartClosing) refl

-- ---- the story

-- what is seen of a command stands in what it did itself, and in what its stops did
abbrev seen_in : State → Command → Seen
seen_in s c =
    let es = settle_events (act s c) [] in
    record { triggered = stops_told (act_events s c ++ es); interruption = price_told (act_events s c ++ es) }

seen_so : (s : State) (c : Command) → seen_of s c ≡ seen_in s c
unfolding seen_of story
seen_so s c = seen-is (act_events s c ++ settle_events (act s c) [])

new_trades_follow_so : (s : State) (c : Command) → (step s c).trades ≡ s.trades ++ new_trades s (step s c)
new_trades_follow_so s c =
    let a = story_tells s c in
    a.trades ∙ ap (λ (ts : List Trade). s.trades ++ ts) (sym (ap (λ (ts : List Trade). drop (length s.trades) ts) a.trades ∙ drop_at s.trades a.more (length s.trades) refl))

story_fits : (s : State) (c : Command) → Fits s (act s c) (act_events s c) (outcome_of s (seen_of s c) (step s c)) (new_trades s (step s c)) (step s c).phase
unfolding step
story_fits s c =
    record {
      widths = refl;
      last = refl;
      price = ap (λ (seen : Seen). seen.interruption) (seen_so s c) ∙ price-append (act_events s c) (settle_events (act s c) []);
      trades_are = new_trades_follow_so s c;
      phase_is = refl;
    }

-- the bare events of a command, where no stop was reached before it
pub story_is_seen : (s : State) (c : Command) → refusal_of s c ≡ None → NoneReached s → map bare (story s c) ≡ seen_story s c (seen_of s c) (new_trades s (step s c)) (step s c)
unfolding story seen_story
story_is_seen s c accepted none =
    let t = step s c in
    let trades = new_trades s t in
    let outcome = outcome_of s (seen_of s c) t in
    let es = settle_events (act s c) [] in
    let parts = acting_seen s c outcome trades t.phase accepted none (story_fits s c) in
    let stops : stops_told es ≡ (seen_of s c).triggered =
    sym (ap (λ (seen : Seen). seen.triggered) (seen_so s c) ∙ stops-append (act_events s c) es ∙ ap (λ (xs : List Stop). xs ++ stops_told es) (own_stops s c)) in
    map-append bare (act_events s c) es
    ∙ ap₂ (λ (xs ys : List Event). xs ++ ys) parts.own_so
    (parts.stops_so ∙ ap (arrivals outcome (s.sweeps + 1 + 1) (last_price (ref1 s) (trades_numbered (s.sweeps + 1) trades)) (trades_behind (s.sweeps + 1) trades)) stops)

-- so it is behind a lawful journal, and with their rests they are the story
pub bare_retold : (j : Journal) (c : Command) → is_lawful j ≡ true → refusal_of (replay j) c ≡ None
    → let s = replay j in map bare (story s c) ≡ seen_story s c (seen_of s c) (new_trades s (step s c)) (step s c)
bare_retold j c lawful accepted = story_is_seen (replay j) c accepted (none_reached j)

pub rests_retold : (j : Journal) (c : Command) → is_lawful j ≡ true → refusal_of (replay j) c ≡ None
    → let s = replay j in story s c ≡ with_rests (units_named (step s c)) (map bare (story s c))
rests_retold j c lawful accepted = story_of_bare (replay j) c accepted (kept j lawful).names

pub story_retold : (j : Journal) (c : Command) → is_lawful j ≡ true → refusal_of (replay j) c ≡ None
    → let s = replay j in let t = step s c in story s c ≡ with_rests (units_named t) (seen_story s c (seen_of s c) (new_trades s t) t)
story_retold j c lawful accepted =
    rests_retold j c lawful accepted ∙ ap (with_rests (units_named (step (replay j) c))) (bare_retold j c lawful accepted)

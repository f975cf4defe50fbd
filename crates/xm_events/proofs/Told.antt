-- The fills that are told of a command are those of its trades.
use Rattle.std.proofs.Common.{◌≡◌, ℕ, ◌+◌, ◌==◌, zero, suc, Bool, true, false, ◌&&◌, not, if◌then◌else◌, List, [], ◌∷◌, ◌++◌, filter, find, length, map, drop, Option, Some, None, refl, sym, ap, ap₂, ◌∙◌, append_assoc, append-nil, drop_at}
use Rattle.std.specs.List.{filter_map, flat_map, cons_option}
use Rattle.std.proofs.lemmas.Grind.{flat_map-append}
use Rattle.std.proofs.lemmas.List.Elements.{filter_map-append}
use Rattle.xm_events.specs.Life.{bare_fill, bare_in, both_sides}
use Rattle.xm_events.specs.Story.{act_events, change_events, come_events, come_under_events, determined_events, entry_events, fills, interrupted_events, interruption, killed_events, leave_events, left_by_sweep, rest_in, settle_events, settle_in_events, story, sweep_events, pending_events, uncross_events, uncross_at_events}
use Rattle.xm_events.specs.declared.events.Deletion.TheVariants.{EndOfDay}
use Rattle.xm_events.specs.declared.events.Entry.{Entry}
use Rattle.xm_events.specs.declared.events.Entry.TheVariants as entry
use Rattle.xm_events.specs.declared.events.Event.{Event}
use Rattle.xm_events.specs.declared.events.Event.TheVariants.{Cancelled, Deleted, Began}
use Rattle.xm_events.specs.declared.events.Fill.{Fill}
use Rattle.xm_rules.specs.Allotment.{Uncrossing, auction_trades, orders_after_call}
use Rattle.xm_rules.specs.Auction.{auction_price}
use Rattle.xm_rules.specs.Commands.{outlasts, trigger_of}
use Rattle.xm_rules.specs.Orders.{is_named, is_stop_named}
use Rattle.xm_rules.specs.Settling.{come, is_continuous, is_free, joined, order_of_stop, reached, released, settle, settle_in, sweep_of, swept, take_pending}
use Rattle.xm_rules.specs.State.{Ranges, State, ranges, ref1}
use Rattle.xm_rules.specs.Step.{act, cancelled, changed, changed_order, come_under, determined, entered, entered_order, keeps_priority, new_trades, next_phase, reduced, replaced, stage_after, step, uncrossed, uncrossed_at}
use Rattle.xm_rules.specs.Sweep.{is_fillable, rest_after, sweep_trades}
use Rattle.xm_rules.specs.declared.commands.Command.{Command}
use Rattle.xm_rules.specs.declared.commands.Command.TheVariants.{Enter, Change, Cancel, CancelAll, StartOpening, StartIntraday, StartClosing, Uncross, EndDay}
use Rattle.xm_rules.specs.declared.commands.Condition.{Condition}
use Rattle.xm_rules.specs.declared.commands.Condition.TheVariants.{Plain, Ioc, Fok, Boc}
use Rattle.xm_rules.specs.declared.orders.Order.{Order}
use Rattle.xm_rules.specs.declared.orders.Side.TheVariants.{Buy, Sell}
use Rattle.xm_rules.specs.declared.orders.Stop.{Stop}
use Rattle.xm_rules.specs.declared.orders.Trade.{Trade}
use Rattle.xm_rules.specs.declared.phases.Auction.{Auction}
use Rattle.xm_rules.specs.declared.phases.CallStage.{CallStage}
use Rattle.xm_rules.specs.declared.phases.Phase.{Phase}
use Rattle.xm_rules.specs.declared.phases.Phase.TheVariants.{Call, Ended}
use Rattle.xm_rules.proofs.CallTrades.{call_of}

-- a later state has the trades of an earlier one and then others, and these events tell both sides of each of those
pub record Tells (s t : State) (es : List Event) : Type 0 where
  pub more : List Trade
  pub trades : t.trades ≡ s.trades ++ more
  pub told : filter_map bare_in es ≡ flat_map both_sides more

-- no trade, and no fill
pub tells_none : (s t : State) (es : List Event) → t.trades ≡ s.trades → filter_map bare_in es ≡ [] → Tells s t es
tells_none s t es same none = record { more = []; trades = same ∙ sym (append-nil s.trades); told = none }

-- one after the other
pub tells_on : (s t u : State) (es fs : List Event) → Tells s t es → Tells t u fs → Tells s u (es ++ fs)
tells_on s t u es fs a b =
    record {
      more = a.more ++ b.more;
      trades = b.trades ∙ ap (λ (ts : List Trade). ts ++ b.more) a.trades ∙ append_assoc s.trades a.more b.more;
      told = filter_map-append bare_in es fs ∙ ap₂ (λ (xs ys : List Fill). xs ++ ys) a.told b.told ∙ sym (flat_map-append both_sides a.more b.more);
    }

-- an event that is no fill comes before
tells_after : (s t : State) (e : Event) (es : List Event) → bare_in e ≡ None → Tells s t es → Tells s t (e ∷ es)
tells_after s t e es none a = record { more = a.more; trades = a.trades; told = ap (λ (o : Option Fill). cons_option o (filter_map bare_in es)) none ∙ a.told }

tells_either : (s t u : State) (es fs : List Event) (b : Bool) → Tells s t es → Tells s u fs → Tells s (if b then t else u) (if b then es else fs)
tells_either s t u es fs true h i = h
tells_either s t u es fs false h i = i

-- ---- fills

-- the fills of trades are both sides of each
fills_tell : (left : ℕ → ℕ → ℕ) (ts : List Trade) → filter_map bare_in (fills left ts) ≡ flat_map both_sides ts
fills_tell left [] = refl
fills_tell left (t ∷ ts) = ap (λ (fs : List Fill). bare_fill Buy t ∷ bare_fill Sell t ∷ fs) (fills_tell left ts)

-- events that are no fills behind the fills of trades
fills_alone : (left : ℕ → ℕ → ℕ) (ts : List Trade) (es : List Event) → filter_map bare_in es ≡ [] → filter_map bare_in (fills left ts ++ es) ≡ flat_map both_sides ts
fills_alone left ts es none =
    filter_map-append bare_in (fills left ts) es ∙ ap₂ (λ (xs ys : List Fill). xs ++ ys) (fills_tell left ts) none ∙ append-nil (flat_map both_sides ts)

pub interruption_tells_none : (r : Ranges) (price : Option ℕ) → filter_map bare_in (interrupted_events r price) ≡ []
interruption_tells_none r None = refl
interruption_tells_none r (Some price) = refl

-- ---- an order that comes in

-- a sweep is told by the fills of its trades
sweeping_tells : (s : State) (o : Order) → Tells s (swept s o) (sweep_events s o)
sweeping_tells s o =
    let w = sweep_of s o in
    let ts = sweep_trades (s.sweeps + 1) w in
    record { more = ts; trades = refl; told = fills_alone (left_by_sweep w) ts (interrupted_events (ranges s) (interruption w)) (interruption_tells_none (ranges s) (interruption w)) }

rest_tells : (s : State) (o : Order) (b : Bool) → Tells s (if b then swept s o else joined (swept s o) (record o { rest = rest_after (sweep_of s o) })) (sweep_events s o)
rest_tells s o true = sweeping_tells s o
rest_tells s o false = let a = sweeping_tells s o in record { more = a.more; trades = a.trades; told = a.told }

-- whatever becomes of the rest
coming_tells : (s : State) (o : Order) → Tells s (come s o) (come_events s o)
coming_tells s o =
    tells_either s _ (joined s o) (sweep_events s o) [] (is_continuous s.phase && is_free o.restriction) (rest_tells s o (rest_after (sweep_of s o) == 0))
    (tells_none s (joined s o) [] refl refl)

pub killed_tells_none : (n : ℕ) (o : Order) → filter_map bare_in (killed_events n o) ≡ []
killed_tells_none zero o = refl
killed_tells_none (suc n) o = refl

condition_tells : (condition : Condition) (s : State) (o : Order) → Tells s (come_under condition s o) (come_under_events condition s o)
condition_tells Plain s o = coming_tells s o
condition_tells Ioc s o =
    let n = rest_after (sweep_of s o) in
    tells_on s (swept s o) (swept s o) (sweep_events s o) (killed_events n o) (sweeping_tells s o) (tells_none (swept s o) (swept s o) (killed_events n o) refl (killed_tells_none n o))
condition_tells Fok s o = tells_either s (come s o) s (come_events s o) _ (is_fillable (sweep_of s o)) (coming_tells s o) (tells_none s s _ refl refl)
condition_tells Boc s o = coming_tells s o

-- ---- commands

entering_tells : (s : State) (condition : Condition) (trigger : Option ℕ) (o : Order) → Tells s (entered s condition trigger o) (entry_events s condition trigger o)
entering_tells s condition None o = tells_after s (come_under condition s o) _ (come_under_events condition s o) refl (condition_tells condition s o)
entering_tells s condition (Some trigger) o = tells_none s (entered s condition (Some trigger) o) _ refl refl

changing_tells : (s : State) (quantity : ℕ) (limit : Option ℕ) (found : Option Order) → Tells s (changed s quantity limit found) (change_events s quantity limit found)
changing_tells s quantity limit None = tells_none s s [] refl refl
changing_tells s quantity limit (Some o) =
    let without = cancelled s o.member o.reference in
    let again = changed_order quantity limit o in
    let a = coming_tells without again in
    tells_either s (reduced s quantity o) (replaced s o again) _ _ (keeps_priority quantity limit o) (tells_none s (reduced s quantity o) _ refl refl)
    (tells_after s (replaced s o again) _ (come_events without again) refl (record { more = a.more; trades = a.trades; told = a.told }))

-- what is made of a list, none of which counts
none_of_mapped : {X Y Z : Type 0} (h : Y → Option Z) (f : X → Y) (xs : List X) → ((x : X) → h (f x) ≡ None) → filter_map h (map f xs) ≡ []
none_of_mapped h f [] none = refl
none_of_mapped {X} {Y} {Z} h f (x ∷ xs) none = ap (λ (o : Option Z). cons_option o (filter_map h (map f xs))) (none x) ∙ none_of_mapped h f xs none

-- what is deleted is no fill
pub leaving_tells_none : (gone : Entry → Event) (orders : List Order) (stops : List Stop) → ((e : Entry) → bare_in (gone e) ≡ None) → filter_map bare_in (leave_events gone orders stops) ≡ []
leaving_tells_none gone orders stops none =
    let of_order = λ (o : Order). gone (entry.Order o) in
    let of_stop = λ (stop : Stop). gone (entry.Stop stop) in
    filter_map-append bare_in (map of_order orders) (map of_stop stops)
    ∙ ap₂ (λ (xs ys : List Fill). xs ++ ys) (none_of_mapped bare_in of_order orders (λ o. none (entry.Order o))) (none_of_mapped bare_in of_stop stops (λ stop. none (entry.Stop stop)))

-- a call is told by the fills of its trades
determining_tells : (s : State) (u : Uncrossing) (next : Option CallStage) → Tells s (determined s u next) (determined_events s u next)
determining_tells s u None =
    let ts = auction_trades (s.sweeps + 1) u in
    record { more = ts; trades = refl; told = fills_alone (rest_in (orders_after_call u)) ts (Began (next_phase u.auction) ∷ []) refl }
determining_tells s u (Some stage) = tells_none s (determined s u (Some stage)) _ refl refl

priced_tells : (s : State) (auction : Auction) (stage : CallStage) (priced : Option (ℕ × ℕ)) → Tells s (uncrossed_at s auction stage priced) (uncross_at_events s auction stage priced)
priced_tells s auction stage None = tells_none s (uncrossed_at s auction stage None) _ refl refl
priced_tells s auction stage (Some priced) = determining_tells s (call_of s auction stage priced) (stage_after (ranges s) stage priced.0)

uncrossing_tells : (s : State) (phase : Phase) → Tells s (uncrossed s phase) (uncross_events s phase)
uncrossing_tells s (Call auction stage) = priced_tells s auction stage (auction_price (Call auction stage) s.orders (ref1 s))
uncrossing_tells s _ = tells_none s s [] refl refl

acting_tells : (s : State) (c : Command) → Tells s (act s c) (act_events s c)
acting_tells s (Enter member reference side kind quantity validity restriction condition) =
    entering_tells s condition (trigger_of kind) (entered_order member reference side kind quantity validity restriction)
acting_tells s (Change member reference quantity limit) = changing_tells s quantity limit (find (is_named member reference) s.orders)
acting_tells s (Cancel member reference) =
    tells_none s (act s (Cancel member reference)) _ refl
    (leaving_tells_none Cancelled (filter (is_named member reference) s.orders) (filter (is_stop_named member reference) s.stops) (λ e. refl))
acting_tells s (CancelAll member) =
    tells_none s (act s (CancelAll member)) _ refl
    (leaving_tells_none Cancelled (filter (λ (o : Order). o.member == member) s.orders) (filter (λ (stop : Stop). stop.member == member) s.stops) (λ e. refl))
acting_tells s Uncross = uncrossing_tells s s.phase
acting_tells s EndDay =
    let gone = λ (e : Entry). Deleted e EndOfDay in
    let orders = filter (λ (o : Order). not (outlasts s.settings.today o.validity)) s.orders in
    let stops = filter (λ (stop : Stop). not (outlasts s.settings.today stop.validity)) s.stops in
    tells_none s (act s EndDay) _ refl
    (filter_map-append bare_in (leave_events gone orders stops) (Began Ended ∷ []) ∙ ap (λ (fs : List Fill). fs ++ []) (leaving_tells_none gone orders stops (λ e. refl)))
acting_tells s StartOpening = tells_none s (act s StartOpening) _ refl refl
acting_tells s StartIntraday = tells_none s (act s StartIntraday) _ refl refl
acting_tells s StartClosing = tells_none s (act s StartClosing) _ refl refl

-- ---- settling

taking_tells : (more : State → List Stop → State) (telling : State → List Stop → List Event) → ((s : State) (pending : List Stop) → Tells s (more s pending) (telling s pending))
    → (s : State) (pending : List Stop) → Tells s (take_pending more s pending) (pending_events telling s pending)
taking_tells more telling each s [] = tells_none s s [] refl refl
taking_tells more telling each s (stop ∷ stops) =
    let o = order_of_stop stop in
    tells_after s _ _ _ refl (tells_on s (come s o) (more (come s o) stops) (come_events s o) (telling (come s o) stops) (coming_tells s o) (each (come s o) stops))

-- each stop that comes in is told with its fills
settling_tells : (turns : ℕ) (s : State) (pending : List Stop) → Tells s (settle_in turns s pending) (settle_in_events turns s pending)
settling_tells zero s pending = tells_none s s [] refl refl
settling_tells (suc turns) s pending =
    let a = taking_tells (settle_in turns) (settle_in_events turns) (settling_tells turns) (released s) (pending ++ reached s) in
    record { more = a.more; trades = a.trades; told = a.told }

-- a command's own trades, and then those of the stops that it reached
pub story_tells : (s : State) (c : Command) → Tells s (step s c) (story s c)
unfolding step story
story_tells s c =
    let a = tells_on s (act s c) (settle (act s c) []) (act_events s c) (settle_events (act s c) []) (acting_tells s c) (settling_tells (length (act s c).stops + 0) (act s c) []) in
    record { more = a.more; trades = a.trades; told = a.told }

-- the fills of a command are both sides of each of its trades
pub fills_of_trades : (s : State) (c : Command) → filter_map bare_in (story s c) ≡ flat_map both_sides (new_trades s (step s c))
fills_of_trades s c =
    let a = story_tells s c in
    a.told ∙ ap (flat_map both_sides) (sym (ap (λ (ts : List Trade). drop (length s.trades) ts) a.trades ∙ drop_at s.trades a.more (length s.trades) refl))

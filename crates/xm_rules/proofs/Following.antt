-- What a command counts: at most one sweep or one held stop more. The stops that it leaves were held before, but an entered one.
use Rattle.std.proofs.Common.{◌≡◌, ℕ, ◌+◌, ◌≤◌, ◌==◌, ◌∷◌, [], Bool, true, false, ◌&&◌, not, if◌then◌else◌, List, All, filter, length, Option, Some, None, refl, sym, ap, subst, arith}
use Rattle.std.specs.Prelude.{find}
use Rattle.std.proofs.lemmas.List.{length-append}
use Rattle.std.proofs.lemmas.List.Elements.{All-append, All-cons, All-filter, All-nil}
use Rattle.std.proofs.lemmas.List.Sums.{count_by-le-length, length-filter}
use Rattle.xm_rules.proofs.Accepted.{entry-accepted}
use Rattle.xm_rules.proofs.CallTrades.{call_of}
use Rattle.xm_rules.specs.Allotment.{Uncrossing}
use Rattle.xm_rules.proofs.ReachedStops.{come-stops}
use Rattle.xm_rules.specs.Auction.{auction_price}
use Rattle.xm_rules.specs.Commands.{is_in_range, outlasts, trigger_of}
use Rattle.xm_rules.specs.Orders.{is_named, is_stop_named}
use Rattle.xm_rules.specs.Refusals.{refusal_of}
use Rattle.xm_rules.specs.Settling.{come, is_continuous, is_free, joined, sweep_of, swept}
use Rattle.xm_rules.specs.State.{State, ranges, ref1}
use Rattle.xm_rules.specs.Step.{act, cancelled, changed, changed_order, come_under, determined, entered, entered_order, keeps_priority, reduced, replaced, stage_after, stop_of, traded, uncrossed, uncrossed_at}
use Rattle.xm_rules.specs.Sweep.{is_fillable, rest_after}
use Rattle.xm_rules.specs.declared.commands.Command.{Command}
use Rattle.xm_rules.specs.declared.commands.Command.TheVariants.{Enter, Change, Cancel, CancelAll, StartOpening, StartIntraday, StartClosing, Uncross, EndDay}
use Rattle.xm_rules.specs.declared.commands.Condition.{Condition}
use Rattle.xm_rules.specs.declared.commands.Condition.TheVariants.{Plain, Ioc, Fok, Boc}
use Rattle.xm_rules.specs.declared.orders.Order.{Order}
use Rattle.xm_rules.specs.declared.orders.Stop.{Stop}
use Rattle.xm_rules.specs.declared.phases.Auction.{Auction}
use Rattle.xm_rules.specs.declared.phases.CallStage.{CallStage}
use Rattle.xm_rules.specs.declared.phases.Phase.{Phase}
use Rattle.xm_rules.specs.declared.phases.Phase.TheVariants.{Call}

abbrev pub HaveUnits : List Stop → Type 0
HaveUnits stops = All (λ (stop : Stop). is_in_range stop.quantity ≡ true) stops

pub record Follows (s t : State) : Type 0 where
  pub numbers : t.sweeps + length t.stops ≤ s.sweeps + length s.stops + 1
  pub units : HaveUnits s.stops → HaveUnits t.stops

follows_if : (s t u : State) (b : Bool) → Follows s t → Follows s u → Follows s (if b then t else u)
follows_if s t u true h i = h
follows_if s t u false h i = i

-- the stops stay, and there is a sweep more or none
same-stops : (s t : State) → t.stops ≡ s.stops → t.sweeps ≤ s.sweeps + 1 → Follows s t
same-stops s t same sweeps =
    record { numbers = omega (arith, ap (λ (ss : List Stop). length ss) same, sweeps); units = λ have. subst HaveUnits (sym same) have }

shorter : (p : Stop → Bool) (stops : List Stop) → length (filter p stops) ≤ length stops
shorter p stops = omega (arith, length-filter p stops, count_by-le-length p stops)

-- stops are deleted
fewer-stops : (s t : State) (p : Stop → Bool) → t.stops ≡ filter p s.stops → t.sweeps ≤ s.sweeps + 1 → Follows s t
fewer-stops s t p left sweeps =
    record {
      numbers = omega (arith, ap (λ (ss : List Stop). length ss) left, shorter p s.stops, sweeps);
      units = λ have. subst HaveUnits (sym left) (All-filter p (λ (stop : Stop). is_in_range stop.quantity ≡ true) s.stops have);
    }

sweeps_if : (n : ℕ) (t u : State) (b : Bool) → t.sweeps ≤ n → u.sweeps ≤ n → (if b then t else u).sweeps ≤ n
sweeps_if n t u true h i = h
sweeps_if n t u false h i = i

-- an order that comes in takes a number for its sweep at most
pub come-sweeps : (s : State) (o : Order) → (come s o).sweeps ≤ s.sweeps + 1
come-sweeps s o =
    let rest = rest_after (sweep_of s o) in
    let left : Order = record o { rest = rest } in
    sweeps_if (s.sweeps + 1) (if rest == 0 then swept s o else joined (swept s o) left) (joined s o) (is_continuous s.phase && is_free o.restriction)
    (sweeps_if (s.sweeps + 1) (swept s o) (joined (swept s o) left) (rest == 0) (omega arith) (omega arith)) (omega arith)

come-follows : (s : State) (o : Order) → Follows s (come s o)
come-follows s o = same-stops s (come s o) (come-stops s o) (come-sweeps s o)

condition-follows : (condition : Condition) (s : State) (o : Order) → Follows s (come_under condition s o)
condition-follows Plain s o = come-follows s o
condition-follows Ioc s o = same-stops s (swept s o) refl (omega arith)
condition-follows Fok s o = follows_if s (come s o) s (is_fillable (sweep_of s o)) (come-follows s o) (same-stops s s refl (omega arith))
condition-follows Boc s o = come-follows s o

entered-follows : (s : State) (condition : Condition) (trigger : Option ℕ) (o : Order) → is_in_range o.rest ≡ true → Follows s (entered s condition trigger o)
entered-follows s condition None o units = condition-follows condition s o
entered-follows s condition (Some trigger) o units =
    let stop = stop_of trigger o in
    let P : Stop → Type 0 = λ x. is_in_range x.quantity ≡ true in
    record { numbers = omega (arith, length-append s.stops (stop ∷ [])); units = λ have. All-append P s.stops (stop ∷ []) have (All-cons P stop [] units (All-nil P)) }

changed-follows : (s : State) (quantity : ℕ) (limit : Option ℕ) (found : Option Order) → Follows s (changed s quantity limit found)
changed-follows s quantity limit None = same-stops s s refl (omega arith)
changed-follows s quantity limit (Some o) =
    let without = cancelled s o.member o.reference in
    let again = changed_order quantity limit o in
    follows_if s (reduced s quantity o) (replaced s o again) (keeps_priority quantity limit o) (same-stops s (reduced s quantity o) refl (omega arith))
    (fewer-stops s (replaced s o again) (λ (stop : Stop). not (is_stop_named o.member o.reference stop)) (come-stops without again) (come-sweeps without again))

determined-follows : (s : State) (u : Uncrossing) (next : Option CallStage) → Follows s (determined s u next)
determined-follows s u None = same-stops s (traded s u) refl (omega arith)
determined-follows s u (Some stage) = same-stops s (determined s u (Some stage)) refl (omega arith)

priced-follows : (s : State) (auction : Auction) (stage : CallStage) (priced : Option (ℕ × ℕ)) → Follows s (uncrossed_at s auction stage priced)
priced-follows s auction stage None = same-stops s (uncrossed_at s auction stage None) refl (omega arith)
priced-follows s auction stage (Some priced) = determined-follows s (call_of s auction stage priced) (stage_after (ranges s) stage priced.0)

uncrossed-follows : (s : State) (phase : Phase) → Follows s (uncrossed s phase)
uncrossed-follows s (Call auction stage) = priced-follows s auction stage (auction_price (Call auction stage) s.orders (ref1 s))
uncrossed-follows s _ = same-stops s s refl (omega arith)

pub act-follows : (s : State) (c : Command) → refusal_of s c ≡ None → Follows s (act s c)
act-follows s (Enter member reference side k quantity v r condition) h =
    entered-follows s condition (trigger_of k) (entered_order member reference side k quantity v r) (entry-accepted s member reference side k quantity v r condition h).quantity
act-follows s (Change member reference quantity limit) h = changed-follows s quantity limit (find (is_named member reference) s.orders)
act-follows s (Cancel member reference) h = fewer-stops s (act s (Cancel member reference)) (λ (stop : Stop). not (is_stop_named member reference stop)) refl (omega arith)
act-follows s (CancelAll member) h = fewer-stops s (act s (CancelAll member)) (λ (stop : Stop). not (stop.member == member)) refl (omega arith)
act-follows s StartOpening h = same-stops s (act s StartOpening) refl (omega arith)
act-follows s StartIntraday h = same-stops s (act s StartIntraday) refl (omega arith)
act-follows s StartClosing h = same-stops s (act s StartClosing) refl (omega arith)
act-follows s Uncross h = uncrossed-follows s s.phase
act-follows s EndDay h = fewer-stops s (act s EndDay) (λ (stop : Stop). outlasts s.settings.today stop.validity) refl (omega arith)

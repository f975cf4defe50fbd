-- What the fills of a command say is left of their orders: what the events behind each take, and what is left behind the command.
use Rattle.std.proofs.Common.{◌≡◌, ℕ, ◌+◌, ◌≤◌, ◌==◌, zero, suc, Bool, true, false, not, if◌then◌else◌, cond, List, [], ◌∷◌, ◌++◌, filter, find, length, sum_by, Option, Some, None, refl, sym, subst, ap, ◌∙◌, arith}
use Rattle.std.proofs.lemmas.List.Elements.{filter_map-append}
use Rattle.std.proofs.lemmas.List.Sums.{sum_by-append, sum_by-cons}
use Rattle.xm_events.specs.Life.{bare_in, taken, units_named}
use Rattle.xm_events.specs.Story.{act_events, change_events, come_events, entry_events, leave_events, settle_events, settle_in_events, story, pending_events}
use Rattle.xm_events.specs.declared.events.Deletion.TheVariants.{EndOfDay}
use Rattle.xm_events.specs.declared.events.Entry.{Entry}
use Rattle.xm_events.specs.declared.events.Event.{Event}
use Rattle.xm_events.specs.declared.events.Event.TheVariants.{Filled, Changed, Cancelled, Deleted, Began}
use Rattle.xm_events.specs.declared.events.Fill.{Fill}
use Rattle.xm_rules.specs.Commands.{outlasts, trigger_of}
use Rattle.xm_rules.specs.Orders.{is_named, is_stop_named}
use Rattle.xm_rules.specs.Refusals.{has_order, has_stop, refusal_of}
use Rattle.xm_rules.specs.Settling.{come, is_reached, order_of_stop, reached, released, settle, settle_in, take_pending}
use Rattle.xm_rules.specs.State.{State, ref1}
use Rattle.xm_rules.specs.Step.{act, cancelled, changed, changed_order, come_under, entered, entered_order, keeps_priority, reduced, replaced, step}
use Rattle.xm_rules.specs.declared.commands.Command.{Command}
use Rattle.xm_rules.specs.declared.commands.Command.TheVariants.{Enter, Change, Cancel, CancelAll, StartOpening, StartIntraday, StartClosing, Uncross, EndDay}
use Rattle.xm_rules.specs.declared.commands.Condition.{Condition}
use Rattle.xm_rules.specs.declared.orders.Order.{Order}
use Rattle.xm_rules.specs.declared.orders.Stop.{Stop}
use Rattle.xm_rules.specs.declared.phases.Phase.TheVariants.{Ended}
use Rattle.xm_rules.proofs.Accepted.{entry-accepted}
use Rattle.xm_rules.proofs.OneName.{act-uses, come-uses, count-none, count-without, named, stop_named, uses}
use Rattle.xm_rules.proofs.ReachedStops.{as_many, come-stops}
use Rattle.xm_rules.proofs.SettledSums.{part, split}
use Rattle.xm_events.proofs.CallRests.{uncrossing_says}
use Rattle.xm_events.proofs.Conserved.{held, settled_conserves, settling_conserves, waiting}
use Rattle.xm_events.proofs.EachFill.{EachSays, says_as, says_at, says_none, says_on}
use Rattle.xm_events.proofs.SweptRests.{AreNamedOnce, coming_says, condition_says, in_hand, waiting_named}
use Rattle.xm_events.proofs.Told.{leaving_tells_none}
use Rattle.xm_events.proofs.Names.{names_are}

-- ---- settling

-- what a state has of a name
abbrev left_of : State → ℕ → ℕ → ℕ
left_of t member reference = held member reference t

-- so many turns of settling tell what is left
abbrev Settles : (State → List Stop → State) → (State → List Stop → List Event) → ℕ → Type 0
Settles more telling turns = (s : State) (pending : List Stop) → length s.stops + length pending ≤ turns → AreNamedOnce s pending → EachSays (left_of (more s pending)) (telling s pending)

-- and take what isn't left
abbrev Conserves : (State → List Stop → State) → (State → List Stop → List Event) → ℕ → Type 0
Conserves more telling turns = (member reference : ℕ) (s : State) (pending : List Stop) → length s.stops + length pending ≤ turns
    → sum_by (taken member reference) (telling s pending) + held member reference (more s pending) ≡ held member reference s + waiting member reference pending

-- the order of the first stop has a name that none has
first_alone : (s : State) (stop : Stop) (stops : List Stop) → AreNamedOnce s (stop ∷ stops)
    → (member reference : ℕ) → uses member reference s + waiting_named member reference stops + named member reference (order_of_stop stop) ≤ 1
first_alone s stop stops names member reference =
    let l = names member reference in
    omega (arith, sum_by-cons (stop_named member reference) stop stops)

-- after it the names are used once still
come_once : (s : State) (stop : Stop) (stops : List Stop) → AreNamedOnce s (stop ∷ stops) → AreNamedOnce (come s (order_of_stop stop)) stops
come_once s stop stops names = λ member reference.
    let l = first_alone s stop stops names member reference in
    omega (arith, come-uses member reference s (order_of_stop stop))

released_once : (s : State) (pending : List Stop) → AreNamedOnce s pending → AreNamedOnce (released s) (pending ++ reached s)
released_once s pending names = λ member reference.
    let l = names member reference in
    omega (arith, sum_by-append (stop_named member reference) pending (reached s), split (stop_named member reference) (is_reached (ref1 s)) s.stops)

taking_says : (more : State → List Stop → State) (telling : State → List Stop → List Event) (turns : ℕ) → Settles more telling turns → Conserves more telling turns
    → (s : State) (pending : List Stop) → length s.stops + length pending ≤ suc turns → AreNamedOnce s pending → EachSays (left_of (take_pending more s pending)) (pending_events telling s pending)
taking_says more telling turns each keeps s [] few names = tt
taking_says more telling turns each keeps s (stop ∷ stops) few names =
    let o = order_of_stop stop in
    let t = come s o in
    let fewer : length t.stops + length stops ≤ turns = (let kept = ap (λ (ss : List Stop). length ss) (come-stops s o) in omega (arith, few)) in (
      tt,
      says_on (in_hand s o stops (first_alone s stop stops names) t) (left_of (more t stops)) (telling t stops)
          (λ member reference. sym (keeps member reference t stops fewer)) (come_events s o) (coming_says s o stops (first_alone s stop stops names))
          (each t stops fewer (come_once s stop stops names)),
    )

settled_says : (turns : ℕ) → Settles (settle_in turns) (settle_in_events turns) turns
settled_says zero s pending few names = tt
settled_says (suc turns) s pending few names =
    taking_says (settle_in turns) (settle_in_events turns) turns (settled_says turns) (λ member reference. settled_conserves member reference turns) (released s) (pending ++ reached s)
    (omega (arith, few, as_many s pending)) (released_once s pending names)

settling_says : (s : State) → ((member reference : ℕ) → uses member reference s ≤ 1) → EachSays (left_of (settle s [])) (settle_events s [])
settling_says s names = settled_says (length s.stops + 0) s [] (omega arith) (λ member reference. let l = names member reference in omega arith)

-- ---- commands

-- an order of which nothing else has the name is the only one that has it
alone_if : (n : ℕ) (b : Bool) → n ≤ 1 → (b ≡ true → n ≡ 0) → n + 0 + cond b 1 0 ≤ 1
alone_if n true l none = let e = none refl in omega arith
alone_if n false l none = omega arith

in_hand_alone : (s : State) (o : Order) (names : (member reference : ℕ) → uses member reference s + waiting_named member reference [] + named member reference o ≤ 1) (t : State) (es : List Event)
    → EachSays (in_hand s o [] names t) es → EachSays (left_of t) es
in_hand_alone s o names t es = says_as (in_hand s o [] names t) (left_of t) (λ member reference. omega arith) es

-- a name that no order and no stop has
entered_alone : (s : State) (o : Order) → ((member reference : ℕ) → uses member reference s ≤ 1) → has_order s o.member o.reference ≡ false → has_stop s o.member o.reference ≡ false
    → (member reference : ℕ) → uses member reference s + waiting_named member reference [] + named member reference o ≤ 1
entered_alone s o names no_order no_stop member reference =
    alone_if (uses member reference s) (is_named member reference o) (names member reference)
    (λ e. let own = names_are member reference o e in
    let none = count-none (is_named member reference) s.orders ((λ k. has_order s (sym own.0 k) (sym own.1 k)) ∙ no_order) in
    let nor = count-none (is_stop_named member reference) s.stops ((λ k. has_stop s (sym own.0 k) (sym own.1 k)) ∙ no_stop) in
    omega (arith, none, nor))

entering_says : (s : State) (condition : Condition) (trigger : Option ℕ) (o : Order) → ((member reference : ℕ) → uses member reference s + waiting_named member reference [] + named member reference o ≤ 1)
    → EachSays (left_of (entered s condition trigger o)) (entry_events s condition trigger o)
entering_says s condition None o names = (tt, in_hand_alone s o names (come_under condition s o) _ (condition_says s o [] names condition))
entering_says s condition (Some trigger) o names = (tt, tt)

-- the order that comes in again has a name that its cancellation made free
again_alone : (s : State) (o : Order) → ((member reference : ℕ) → uses member reference s ≤ 1)
    → (member reference : ℕ) → uses member reference (cancelled s o.member o.reference) + waiting_named member reference [] + named member reference o ≤ 1
again_alone s o names member reference =
    let left = part (named member reference) (λ (x : Order). not (is_named o.member o.reference x)) s.orders in
    let stops_left = part (stop_named member reference) (λ (stop : Stop). not (is_stop_named o.member o.reference stop)) s.stops in
    let l = names member reference in
    alone_if (uses member reference (cancelled s o.member o.reference)) (is_named member reference o) (omega arith)
    (λ e. let own = names_are member reference o e in
    let none : uses member reference (cancelled s member reference) ≡ 0 = omega (arith, count-without (is_named member reference) s.orders, count-without (is_stop_named member reference) s.stops) in
    (λ k. uses member reference (cancelled s (own.0 k) (own.1 k))) ∙ none)

changing_says : (s : State) (quantity : ℕ) (limit : Option ℕ) (found : Option Order) → ((member reference : ℕ) → uses member reference s ≤ 1)
    → EachSays (left_of (changed s quantity limit found)) (change_events s quantity limit found)
changing_says s quantity limit None names = tt
changing_says s quantity limit (Some o) names = by (keeps_priority quantity limit o) where
  by : (b : Bool) → EachSays (left_of (if b then reduced s quantity o else replaced s o (changed_order quantity limit o)))
      (if b then Changed (record o { rest = quantity }) ∷ [] else Changed (changed_order quantity limit o) ∷ come_events (cancelled s o.member o.reference) (changed_order quantity limit o))
  by true = (tt, tt)
  by false =
      let s_without = cancelled s o.member o.reference in
      let again = changed_order quantity limit o in
      (tt, in_hand_alone s_without again (again_alone s o names) (come s_without again) (come_events s_without again) (coming_says s_without again [] (again_alone s o names)))

acting_says : (s : State) (c : Command) → refusal_of s c ≡ None → ((member reference : ℕ) → uses member reference s ≤ 1) → EachSays (left_of (act s c)) (act_events s c)
acting_says s (Enter m r side kind quantity validity restriction condition) accepted names =
    let o = entered_order m r side kind quantity validity restriction in
    let passes = entry-accepted s m r side kind quantity validity restriction condition accepted in
    entering_says s condition (trigger_of kind) o (entered_alone s o names passes.no_order passes.no_stop)
acting_says s (Change m r quantity limit) accepted names = changing_says s quantity limit (find (is_named m r) s.orders) names
acting_says s (Cancel m r) accepted names =
    says_none (left_of (act s (Cancel m r))) (act_events s (Cancel m r))
    (leaving_tells_none Cancelled (filter (is_named m r) s.orders) (filter (is_stop_named m r) s.stops) (λ e. refl))
acting_says s (CancelAll m) accepted names =
    says_none (left_of (act s (CancelAll m))) (act_events s (CancelAll m))
    (leaving_tells_none Cancelled (filter (λ (o : Order). o.member == m) s.orders) (filter (λ (stop : Stop). stop.member == m) s.stops) (λ e. refl))
acting_says s Uncross accepted names = uncrossing_says s s.phase names
acting_says s EndDay accepted names =
    let gone = λ (e : Entry). Deleted e EndOfDay in
    let orders = filter (λ (o : Order). not (outlasts s.settings.today o.validity)) s.orders in
    let stops = filter (λ (stop : Stop). not (outlasts s.settings.today stop.validity)) s.stops in
    says_none (left_of (act s EndDay)) (act_events s EndDay)
    (filter_map-append bare_in (leave_events gone orders stops) (Began Ended ∷ []) ∙ ap (λ (fs : List Fill). fs ++ []) (leaving_tells_none gone orders stops (λ e. refl)))
acting_says s StartOpening accepted names = (tt, tt)
acting_says s StartIntraday accepted names = (tt, tt)
acting_says s StartClosing accepted names = (tt, tt)

-- the command's fills, and then those of the stops that it reached
pub story_says : (s : State) (c : Command) → refusal_of s c ≡ None → ((member reference : ℕ) → uses member reference s ≤ 1)
    → EachSays (λ member reference. units_named (step s c) member reference) (story s c)
unfolding step story
story_says s c accepted names =
    let t = act s c in
    says_on (left_of t) (left_of (settle t [])) (settle_events t []) (λ member reference. let e = settling_conserves member reference t [] in omega arith) (act_events s c)
    (acting_says s c accepted names) (settling_says t (λ member reference. act-uses member reference s c accepted (names member reference)))

-- each fill of a command tells what is left of its order
pub fill_says : (s : State) (c : Command) (before behind : List Event) (f : Fill) → refusal_of s c ≡ None → ((member reference : ℕ) → uses member reference s ≤ 1)
    → story s c ≡ before ++ Filled f ∷ behind
    → f.rest ≡ sum_by (taken f.member f.reference) behind + units_named (step s c) f.member f.reference
fill_says s c before behind f accepted names e =
    let left = λ (member reference : ℕ). units_named (step s c) member reference in
    says_at left before behind f (subst (EachSays left) e (story_says s c accepted names))

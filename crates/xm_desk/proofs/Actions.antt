-- What the action of an accepted command does, and what its checks found.
use Rattle.std.proofs.Common.{◌≡◌, ◌∙◌, ◌≤◌, ℕ, [], ◌∷◌, ◌++◌, List, Bool, true, false, ◌&&◌, ◌==◌, filter, not, if◌then◌else◌, find, Option, Some, None, IfSome, refl, ap, sym, subst, arith}
use Rattle.std.specs.Option.{option_map}
use Rattle.std.specs.Prelude.{nat_le}
use Rattle.std.proofs.lemmas.Bool.{and_parts}
use Rattle.std.proofs.lemmas.Bool.Decides.{nat_tests}
use Rattle.xm_desk.proofs.Named.{find-named}
use Rattle.xm_desk.specs.Accepted.{action_of, changing, ending, entering}
use Rattle.xm_desk.specs.declared.accepted.Action.{Action}
use Rattle.xm_desk.specs.declared.accepted.Action.TheVariants as action
use Rattle.xm_events.proofs.Seeing.{cancelled-unseen, ending-unseen}
use Rattle.xm_events.specs.Seen.{Seen, seen_after}
use Rattle.xm_events.specs.Story as story
use Rattle.xm_events.specs.declared.events.Event.{Event}
use Rattle.xm_rules.proofs.Accepted.{change-accepted, entry-accepted}
use Rattle.xm_rules.proofs.Ranges.{range_high}
use Rattle.xm_rules.specs.Auction.{auction_price}
use Rattle.xm_rules.specs.Commands.{has_prices_in_range, is_for_trading, is_in_range, trigger_of}
use Rattle.xm_rules.specs.Orders.{is_named, is_stop_named, with_rest}
use Rattle.xm_rules.specs.Refusals.{has_order, has_stop, refusal_of}
use Rattle.xm_rules.specs.Settling.{come, is_continuous}
use Rattle.xm_rules.specs.State.{State, ref1}
use Rattle.xm_rules.specs.Step.{act, all_cancelled, cancelled, changed_order, come_under, day_ended, entered, entered_order, keeps_priority, same_limit, uncrossed, uncrossed_at}
use Rattle.xm_rules.specs.declared.commands.Command.{Command}
use Rattle.xm_rules.specs.declared.commands.Command.TheVariants.{Enter, Change, Cancel, CancelAll, StartOpening, StartIntraday, StartClosing, Uncross, EndDay}
use Rattle.xm_rules.specs.declared.commands.Condition.{Condition}
use Rattle.xm_rules.specs.declared.commands.Condition.TheVariants.{Ioc}
use Rattle.xm_rules.specs.declared.commands.Kind.{Kind}
use Rattle.xm_rules.specs.declared.commands.Kind.TheVariants as kind
use Rattle.xm_rules.specs.declared.orders.Order.{Order}
use Rattle.xm_rules.specs.declared.orders.Restriction.{Restriction}
use Rattle.xm_rules.specs.declared.orders.Side.{Side}
use Rattle.xm_rules.specs.declared.orders.Stop.{Stop}
use Rattle.xm_rules.specs.declared.orders.Validity.{Validity}
use Rattle.xm_rules.specs.declared.phases.Auction.TheVariants.{Opening, Intraday, Closing}
use Rattle.xm_rules.specs.declared.phases.CallStage.TheVariants.{Ordinary}
use Rattle.xm_rules.specs.declared.phases.Phase.{Phase}
use Rattle.xm_rules.specs.declared.phases.Phase.TheVariants as phase
use Rattle.xm_ticks.specs.declared.numbers.TheConstants.{MAX_PRICE}

-- the state after an action, before the stops that it reached are settled
abbrev pub done : State → Action → State
done s (action.Enter o condition) = come_under condition s o
done s (action.Hold stop) = record s { stops = s.stops ++ stop ∷ [] }
done s (action.Reduce member reference rest) = record s { orders = with_rest member reference rest s.orders }
done s (action.Replace o) = come (cancelled s o.member o.reference) o
done s (action.Cancel member reference) = cancelled s member reference
done s (action.CancelAll member) = all_cancelled s member
done s (action.StartCall auction) = record s { phase = phase.Call auction Ordinary }
done s (action.EndCall auction stage) = uncrossed_at s auction stage (auction_price (phase.Call auction stage) s.orders (ref1 s))
done s action.EndDay = day_ended s

-- what happens by an action, as far as it is seen
abbrev pub telling : State → Action → List Event
telling s (action.Enter o condition) = story.come_under_events condition s o
telling s (action.Replace o) = story.come_events (cancelled s o.member o.reference) o
telling s (action.EndCall auction stage) = story.uncross_at_events s auction stage (auction_price (phase.Call auction stage) s.orders (ref1 s))
telling s _ = []

-- an order that comes in has a new name and units; an immediate one comes in continuous trading
pub record CanEnter (s : State) (o : Order) (condition : Condition) : Type 0 where
  pub name : has_order s o.member o.reference ≡ false
  pub rest : is_in_range o.rest ≡ true
  pub immediate : condition ≡ Ioc → is_continuous s.phase ≡ true

-- no held stop has the name of one that is entered
pub record CanHold (s : State) (stop : Stop) : Type 0 where
  pub name : has_stop s stop.member stop.reference ≡ false
  pub trigger : stop.trigger ≤ MAX_PRICE

-- an order that comes in again has units, and no stop has its name
pub record CanReplace (s : State) (o : Order) : Type 0 where
  pub name : has_stop s o.member o.reference ≡ false
  pub rest : is_in_range o.rest ≡ true

abbrev pub CanDo : State → Action → Type 0
CanDo s (action.Enter o condition) = CanEnter s o condition
CanDo s (action.Hold stop) = CanHold s stop
CanDo s (action.Reduce member reference rest) = IfSome (find (is_named member reference) s.orders) (λ o. (1 ≤ rest) × (rest ≤ o.rest))
CanDo s (action.Replace o) = CanReplace s o
CanDo s (action.EndCall auction stage) = s.phase ≡ phase.Call auction stage
CanDo s _ = Unit {0}

pub record Does (s : State) (command : Command) (a : Action) : Type 0 where
  pub same : done s a ≡ act s command
  pub told : (seen : Seen) → seen_after seen (telling s a) ≡ seen_after seen (story.act_events s command)
  pub can : CanDo s a

immediate_if : (continuous : Bool) → not continuous ≡ false → continuous ≡ true
immediate_if true h = refl
immediate_if false h = cc

-- the trigger of a stop is in range
trigger-within : (k : Kind) (trigger : ℕ) → has_prices_in_range k ≡ true → trigger_of k ≡ Some trigger → trigger ≤ MAX_PRICE
trigger-within kind.Market trigger h e = cc
trigger-within (kind.Limit p) trigger h e = cc
trigger-within (kind.StopMarket t) trigger h e = let same : t ≡ trigger = cc in omega (arith, range_high t h, same)
trigger-within (kind.StopLimit t p) trigger h e =
    let same : t ≡ trigger = cc in
    omega (arith, range_high t (and_parts (is_in_range t) (is_in_range p) h).0, same)

module _ (s : State) (member reference : ℕ) (side : Side) (k : Kind) (quantity : ℕ) (v : Validity) (r : Restriction) (condition : Condition) where
  abbrev entry : Command
  entry = Enter member reference side k quantity v r condition

  abbrev order : Order
  order = entered_order member reference side k quantity v r

  entry_if : (trigger : Option ℕ) → trigger_of k ≡ trigger → refusal_of s entry ≡ None → Does s entry (entering condition trigger order)
  entry_if None e h =
      let passes = entry-accepted s member reference side k quantity v r condition h in
      record {
        same = ap (λ (t : Option ℕ). entered s condition t order) (sym e);
        told = λ seen. ap (λ (t : Option ℕ). seen_after seen (story.entry_events s condition t order)) (sym e);
        can = record {
          name = passes.no_order;
          rest = passes.quantity;
          immediate = λ ioc. immediate_if (is_continuous s.phase) (ap (λ (c : Condition). is_for_trading c && not (is_continuous s.phase)) (sym ioc) ∙ passes.in_phase);
        };
      }
  entry_if (Some trigger) e h =
      let passes = entry-accepted s member reference side k quantity v r condition h in
      record {
        same = ap (λ (t : Option ℕ). entered s condition t order) (sym e);
        told = λ seen. ap (λ (t : Option ℕ). seen_after seen (story.entry_events s condition t order)) (sym e);
        can = record { name = passes.no_stop; trigger = trigger-within k trigger passes.prices e };
      }

module _ (s : State) (member reference quantity : ℕ) (limit : Option ℕ) (o : Order) (found : find (is_named member reference) s.orders ≡ Some o) (h : refusal_of s (Change member reference quantity limit) ≡ None) where
  change_if : (keeps : Bool) → keeps_priority quantity limit o ≡ keeps
      → Does s (Change member reference quantity limit) (if keeps then action.Reduce o.member o.reference quantity else action.Replace (changed_order quantity limit o))
  change_if true e =
      let name = find-named member reference s.orders o found in
      let passes = change-accepted s member reference quantity limit h in
      let within = (and_parts (same_limit limit o.kind) (nat_le quantity o.rest) e).1 in
      record {
        same = rw (found, e) refl;
        told = λ seen. rw (found, e) refl;
        can = rw (name.member, name.reference, found) (grind (arith, nat_tests, passes.quantity), grind (arith, nat_tests, within));
      }
  change_if false e =
      let name = find-named member reference s.orders o found in
      let passes = change-accepted s member reference quantity limit h in
      record {
        same = rw (found, e) refl;
        told = λ seen. rw (found, e) refl;
        can = record { name = rw (name.member, name.reference) passes.no_stop; rest = passes.quantity };
      }

changes : (s : State) (member reference quantity : ℕ) (limit : Option ℕ) (a : Action) (found : Option Order) → find (is_named member reference) s.orders ≡ found
    → refusal_of s (Change member reference quantity limit) ≡ None → option_map (changing quantity limit) found ≡ Some a → Does s (Change member reference quantity limit) a
changes s member reference quantity limit a None e h is = cc
changes s member reference quantity limit a (Some o) e h is =
    let same : changing quantity limit o ≡ a = cc in
    subst (λ (x : Action). Does s (Change member reference quantity limit) x) same (change_if s member reference quantity limit o e h (keeps_priority quantity limit o) refl)

ends : (s : State) (p : Phase) (a : Action) → s.phase ≡ p → ending p ≡ Some a → Does s Uncross a
ends s phase.PreTrading a e is = cc
ends s phase.Continuous a e is = cc
ends s phase.PostTrading a e is = cc
ends s phase.Ended a e is = cc
ends s (phase.Call auction stage) a e is =
    let same : action.EndCall auction stage ≡ a = cc in
    subst (λ (x : Action). Does s Uncross x) same (record { same = ap (λ (p : Phase). uncrossed s p) (sym e); told = λ seen. ap (λ (p : Phase). seen_after seen (story.uncross_events s p)) (sym e); can = e })

-- what an accepted command does, and what its checks found
pub does : (s : State) (command : Command) (a : Action) → refusal_of s command ≡ None → action_of s command ≡ Some a → Does s command a
does s (Enter member reference side k quantity v r condition) a h is =
    let same : entering condition (trigger_of k) (entered_order member reference side k quantity v r) ≡ a = cc in
    subst (λ (x : Action). Does s (Enter member reference side k quantity v r condition) x) same (entry_if s member reference side k quantity v r condition (trigger_of k) refl h)
does s (Change member reference quantity limit) a h is = changes s member reference quantity limit a (find (is_named member reference) s.orders) refl h is
does s (Cancel member reference) a h is =
    let same : action.Cancel member reference ≡ a = cc in
    subst (λ (x : Action). Does s (Cancel member reference) x) same (record { same = refl; told = λ seen. sym (cancelled-unseen seen (filter (is_named member reference) s.orders) (filter (is_stop_named member reference) s.stops)); can = tt })
does s (CancelAll member) a h is =
    let same : action.CancelAll member ≡ a = cc in
    subst (λ (x : Action). Does s (CancelAll member) x) same (record { same = refl; told = λ seen. sym (cancelled-unseen seen (filter (λ (o : Order). o.member == member) s.orders) (filter (λ (stop : Stop). stop.member == member) s.stops)); can = tt })
does s StartOpening a h is = let same : action.StartCall Opening ≡ a = cc in subst (λ (x : Action). Does s StartOpening x) same (record { same = refl; told = λ seen. refl; can = tt })
does s StartIntraday a h is = let same : action.StartCall Intraday ≡ a = cc in subst (λ (x : Action). Does s StartIntraday x) same (record { same = refl; told = λ seen. refl; can = tt })
does s StartClosing a h is = let same : action.StartCall Closing ≡ a = cc in subst (λ (x : Action). Does s StartClosing x) same (record { same = refl; told = λ seen. refl; can = tt })
does s Uncross a h is = ends s s.phase a refl is
does s EndDay a h is = let same : action.EndDay ≡ a = cc in subst (λ (x : Action). Does s EndDay x) same (record { same = refl; told = λ seen. sym (ending-unseen seen s); can = tt })

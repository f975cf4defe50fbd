-- The change and the cancellation of an order: what they leave.
use Rattle.std.proofs.Common.{◌≡◌, ℕ, ◌+◌, ◌<◌, ◌≤◌, cond, count_by, filter, List, [], ◌∷◌, Bool, true, false, ◌||◌, not, if◌then◌else◌, find, Option, Some, None, refl, ap, subst, sym, arith}
use Rattle.std.specs.Prelude.{is_some}
use Rattle.std.specs.List.{list_any}
use Rattle.std.proofs.lemmas.List.Sums.{sum_by-cons}
use Rattle.xm_book.specs.Places.{place_of}
use Rattle.xm_desk.proofs.Named.{any-find, any-left_out}
use Rattle.xm_desk.specs.Incoming.{CanComeIn}
use Rattle.xm_desk.specs.Made.{uses}
use Rattle.xm_desk.specs.Settled.{Unsettled, came}
use Rattle.xm_desk.specs.declared.unsettled.Ready.TheVariants.{ForOrder}
use Rattle.xm_rules.specs.Commands.{is_in_range}
use Rattle.xm_rules.specs.Orders.{is_named, is_stop_named, removed, removed_stop}
use Rattle.xm_rules.specs.Refusals.{first_failing, has_stop, is_given_in_range, is_limit_for_market, own_checks}
use Rattle.xm_rules.specs.State.{State}
use Rattle.xm_rules.specs.Step.{cancelled}
use Rattle.xm_rules.specs.declared.commands.Command.TheVariants.{Change}
use Rattle.xm_rules.specs.declared.orders.Order.{Order}
use Rattle.xm_rules.specs.declared.orders.Stop.{Stop}
use Rattle.xm_rules.specs.declared.replies.Refusal.{Refusal}
use Rattle.xm_rules.specs.declared.replies.Refusal.TheVariants.{BadQuantity, BadPrice, UnknownOrder, NotChangeable}
use Rattle.xm_rules.specs.declared.settings.TheConstants.{PHASE_COMMANDS_MORE}

-- the checks of a change, by the order that is found
abbrev pub checks_of : ℕ → Option ℕ → Option Order → Option Refusal
checks_of quantity limit None = Some UnknownOrder
checks_of quantity limit (Some o) =
    if is_limit_for_market limit (Some o) then Some NotChangeable
    else (if not (is_in_range quantity) then Some BadQuantity
    else (if not (is_given_in_range limit) then Some BadPrice else None))

checked_if : (quantity : ℕ) (limit : Option ℕ) (any : Bool) (found : Option Order) → any ≡ is_some found
    → checks_of quantity limit found ≡ (if not (any || false) then Some UnknownOrder else (if is_limit_for_market limit found then Some NotChangeable else (if not (is_in_range quantity) then Some BadQuantity else (if not (is_given_in_range limit) then Some BadPrice else None))))
checked_if quantity limit any None e = rw e refl
checked_if quantity limit any (Some o) e = rw e refl

pub change-checks : (s : State) (member reference quantity : ℕ) (limit : Option ℕ) → has_stop s member reference ≡ false
    → checks_of quantity limit (find (is_named member reference) s.orders) ≡ first_failing (own_checks s (Change member reference quantity limit))
change-checks s member reference quantity limit none =
    rw none (checked_if quantity limit (list_any (is_named member reference) s.orders) (find (is_named member reference) s.orders) (any-find (is_named member reference) s.orders))

-- where an order has a name, no stop has it
found-counted_if : (p : Order → Bool) (o : Order) (os : List Order) (b : Bool) → is_some (cond b (Some o) (find p os)) ≡ true → (is_some (find p os) ≡ true → 1 ≤ count_by p os)
    → 1 ≤ cond b 1 0 + count_by p os
found-counted_if p o os true e more = omega arith
found-counted_if p o os false e more = omega (arith, more e)

found-counted : (p : Order → Bool) (os : List Order) → is_some (find p os) ≡ true → 1 ≤ count_by p os
found-counted p [] e = cc
found-counted p (o ∷ os) e = omega (arith, sum_by-cons (λ (x : Order). cond (p x) 1 0) o os, found-counted_if p o os (p o) e (found-counted p os))

kept_all_if : (p : Stop → Bool) (stop : Stop) (stops : List Stop) (b : Bool) → cond b 1 0 + count_by p stops ≡ 0 → (count_by p stops ≡ 0 → filter (λ (x : Stop). not (p x)) stops ≡ stops)
    → cond (not b) (stop ∷ filter (λ (x : Stop). not (p x)) stops) (filter (λ (x : Stop). not (p x)) stops) ≡ stop ∷ stops
kept_all_if p stop stops true e more = absurd (omega arith)
kept_all_if p stop stops false e more = ap (λ (ss : List Stop). stop ∷ ss) (more (omega arith))

kept-all : (p : Stop → Bool) (stops : List Stop) → count_by p stops ≡ 0 → filter (λ (x : Stop). not (p x)) stops ≡ stops
kept-all p [] e = refl
kept-all p (stop ∷ stops) e = kept_all_if p stop stops (p stop) (omega (arith, e, sum_by-cons (λ (x : Stop). cond (p x) 1 0) stop stops)) (kept-all p stops)

pub stop-unnamed : (s : State) (member reference : ℕ) → uses member reference s ≤ 1 → is_some (find (is_named member reference) s.orders) ≡ true
    → removed_stop member reference s.stops ≡ s.stops
stop-unnamed s member reference once found =
    kept-all (is_stop_named member reference) s.stops (omega (arith, once, found-counted (is_named member reference) s.orders found))

-- a name that no stop has leaves all stops
unnamed_if : (p : Stop → Bool) (stop : Stop) (stops : List Stop) (b : Bool) → (b || list_any p stops) ≡ false → (list_any p stops ≡ false → filter (λ (x : Stop). not (p x)) stops ≡ stops)
    → cond (not b) (stop ∷ filter (λ (x : Stop). not (p x)) stops) (filter (λ (x : Stop). not (p x)) stops) ≡ stop ∷ stops
unnamed_if p stop stops true e more = cc
unnamed_if p stop stops false e more = ap (λ (ss : List Stop). stop ∷ ss) (more e)

unnamed-stay : (p : Stop → Bool) (stops : List Stop) → list_any p stops ≡ false → filter (λ (x : Stop). not (p x)) stops ≡ stops
unnamed-stay p [] e = refl
unnamed-stay p (stop ∷ stops) e = unnamed_if p stop stops (p stop) e (unnamed-stay p stops)

abbrev pub without : ℕ → ℕ → Unsettled → Unsettled
without member reference v = record v { state = record v.state { orders = removed member reference v.state.orders } }

-- an order whose name no stop has leaves as a cancellation lets it
pub leaves-as-cancelled : (s : State) (member reference : ℕ) → has_stop s member reference ≡ false → record s { orders = removed member reference s.orders } ≡ cancelled s member reference
leaves-as-cancelled s member reference none =
    ap (λ (ss : List Stop). let t : State = record s { orders = removed member reference s.orders; stops = ss } in t) (sym (unnamed-stay (is_stop_named member reference) s.stops none))

-- and can come in again
pub can-come-again : (v t : Unsettled) (o : Order) → t ≡ without o.member o.reference v → v.ready ≡ ForOrder (place_of o) → is_in_range o.rest ≡ true
    → v.state.accepted < v.state.settings.limit + PHASE_COMMANDS_MORE → v.state.sweeps < came v.state.settings (v.state.settings.limit + PHASE_COMMANDS_MORE) → CanComeIn t o
can-come-again v t o after ready rest accepted sweeps =
    let left : CanComeIn (without o.member o.reference v) o = record {
      joins = record { ready = ready; name = any-left_out (is_named o.member o.reference) v.state.orders; rest = rest; accepted = accepted };
      sweeps = sweeps;
    } in
    subst (λ (u : Unsettled). CanComeIn u o) (sym after) left

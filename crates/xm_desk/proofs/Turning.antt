-- A turn of settling: the reached stops become pending, and the first pending one comes in.
use Rattle.std.proofs.Common.{◌≡◌, ◌∙◌, ℕ, ◌+◌, ◌<◌, ◌≤◌, Bool, true, false, ◌||◌, not, cond, List, [], ◌∷◌, ◌++◌, count_by, drop, length, sum_by, Some, None, refl, sym, ap, subst, arith}
use Rattle.std.specs.List.{list_any, slice_get}
use Rattle.std.specs.Prelude.{nat_eq}
use Rattle.std.proofs.lemmas.Bool.Decides.{nat_tests}
use Rattle.std.proofs.lemmas.List.Elements.{All-append, All-filter, All-head, All-tail}
use Rattle.std.proofs.lemmas.List.Sums.{sum_by-append, sum_by-cons}
use Rattle.xm_desk.proofs.Making.{makes-both, makes-none}
use Rattle.xm_desk.specs.Incoming.{CanComeIn}
use Rattle.xm_desk.specs.Made.{CanSettle, HaveUnits, Makes, uses}
use Rattle.xm_desk.specs.Settled.{Unsettled, came, place_of_stop}
use Rattle.xm_desk.specs.declared.unsettled.Ready.TheVariants.{ForOrder, Used}
use Rattle.xm_events.proofs.Seeing.{seen-append}
use Rattle.xm_events.proofs.Settlings.{settling-none, settling-turn}
use Rattle.xm_events.specs.Seen.{Seen, seen_after}
use Rattle.xm_events.specs.Story.{come_events, settle_events}
use Rattle.xm_events.specs.declared.events.Event.{Event}
use Rattle.xm_rules.proofs.Following.{come-sweeps}
use Rattle.xm_rules.proofs.Kept.{come-keeps}
use Rattle.xm_rules.proofs.OneName.{come-uses}
use Rattle.xm_rules.proofs.ReachedStops.{as_many, come-stops, settle-none, settle-turn}
use Rattle.xm_rules.proofs.SettledSums.{split}
use Rattle.xm_rules.specs.Commands.{is_in_range}
use Rattle.xm_rules.specs.Orders.{is_named, is_stop_named}
use Rattle.xm_rules.specs.Refusals.{has_order}
use Rattle.xm_rules.specs.Settling.{come, is_reached, order_of_stop, reached, released, settle}
use Rattle.xm_rules.specs.State.{State, ref1}
use Rattle.xm_rules.specs.declared.orders.Order.{Order}
use Rattle.xm_rules.specs.declared.orders.Stop.{Stop}
use Rattle.xm_rules.specs.declared.settings.DeskSettings.{DeskSettings}

-- the reached stops are pending
abbrev pub taken : Unsettled → Unsettled
taken u = record u { state = released u.state; pending = u.pending ++ reached u.state }

pub taken-standing : (u : Unsettled) → CanSettle u → CanSettle (taken u)
taken-standing u can =
    let s = u.state in
    let have : Stop → Type 0 = λ stop. is_in_range stop.quantity ≡ true in
    record {
      ready = can.ready;
      accepted = can.accepted;
      sweeps = omega (arith, can.sweeps, as_many s u.pending);
      names = λ m r. omega (
        arith,
        can.names m r,
        split (λ (stop : Stop). cond (is_stop_named m r stop) 1 0) (is_reached (ref1 s)) s.stops,
        sum_by-append (λ (stop : Stop). cond (is_stop_named m r stop) 1 0) u.pending (reached s),
      );
      units = All-filter (λ (stop : Stop). not (is_reached (ref1 s) stop)) have s.stops can.units;
      pending_units = All-append have u.pending (reached s) can.pending_units (All-filter (is_reached (ref1 s)) have s.stops can.units);
    }

-- ---- none is pending

first-none : (stops : List Stop) → slice_get stops 0 ≡ None → stops ≡ []
first-none [] e = refl
first-none (stop ∷ stops) e = cc

pub record Ends (u v : Unsettled) : Type 0 where
  pub after : v ≡ record u { state = settle u.state u.pending; pending = []; seen = seen_after u.seen (settle_events u.state u.pending) }
  pub standing : CanSettle v
  pub made : Makes u v

pub ends : (u v w : Unsettled) → CanSettle u → v ≡ taken u → slice_get v.pending 0 ≡ None → w ≡ v → Ends u w
ends u v w can is none same =
    let empty : u.pending ++ reached u.state ≡ [] = first-none (u.pending ++ reached u.state) (ap (λ (x : Unsettled). slice_get x.pending 0) (sym is) ∙ none) in
    let here = same ∙ is in
    record {
      after =
          here ∙ ap (λ (s : State). let x : Unsettled = record u { state = s; pending = u.pending ++ reached u.state } in x) (sym (settle-none u.state u.pending empty))
          ∙ ap (λ (stops : List Stop). let x : Unsettled = record u { state = settle u.state u.pending; pending = stops } in x) empty
          ∙ ap (λ (events : List Event). let x : Unsettled = record u { state = settle u.state u.pending; pending = []; seen = seen_after u.seen events } in x) (sym (settling-none u.state u.pending empty));
      standing = subst CanSettle (sym here) (taken-standing u can);
      made = subst (λ (x : Unsettled). Makes u x) (sym here) (makes-none u (taken u) refl (omega (arith, as_many u.state u.pending)));
    }

-- ---- the first one comes in

first-some : (stops : List Stop) (stop : Stop) → slice_get stops 0 ≡ Some stop → stops ≡ stop ∷ drop 1 stops
first-some [] stop e = cc
first-some (x ∷ stops) stop e = let same : x ≡ stop = cc in ap (λ (y : Stop). y ∷ stops) same

same_number : (n : ℕ) → nat_eq n n ≡ true
same_number n = grind (arith, nat_tests)

named-self : (stop : Stop) → is_stop_named stop.member stop.reference stop ≡ true
named-self stop = rw (same_number stop.member, same_number stop.reference) refl

unnamed_if : (b any : Bool) (n : ℕ) → cond b 1 0 + n ≡ 0 → (n ≡ 0 → any ≡ false) → (b || any) ≡ false
unnamed_if true any n e more = absurd (omega arith)
unnamed_if false any n e more = more (omega arith)

-- a name that is counted for no order is that of none
unnamed : (m r : ℕ) (os : List Order) → count_by (is_named m r) os ≡ 0 → list_any (is_named m r) os ≡ false
unnamed m r [] e = refl
unnamed m r (o ∷ os) e =
    let counted = sum_by-cons (λ (x : Order). cond (is_named m r x) 1 0) o os in
    unnamed_if (is_named m r o) (list_any (is_named m r) os) (count_by (is_named m r) os) (omega arith) (unnamed m r os)

pub record Turns (u v : Unsettled) : Type 0 where
  pub fewer : length v.state.stops + length v.pending < length u.state.stops + length u.pending
  pub same : settle v.state v.pending ≡ settle u.state u.pending
  pub told : seen_after v.seen (settle_events v.state v.pending) ≡ seen_after u.seen (settle_events u.state u.pending)
  pub standing : CanSettle v
  pub made : Makes u v

module _ (u : Unsettled) (can : CanSettle u) (stop : Stop) (first : slice_get (u.pending ++ reached u.state) 0 ≡ Some stop) where
  abbrev s : State
  s = released u.state

  abbrev left : List Stop
  left = drop 1 (u.pending ++ reached u.state)

  -- it is seen
  abbrev came_in : Seen
  came_in = record u.seen { triggered = u.seen.triggered ++ stop ∷ [] }

  -- the stop is ready to come in
  abbrev before : Unsettled
  before = record u { state = s; pending = left; ready = ForOrder (place_of_stop stop); seen = came_in }

  abbrev after : Unsettled
  after = record u { state = come s (order_of_stop stop); pending = left; ready = Used; seen = seen_after came_in (come_events s (order_of_stop stop)) }

  next : u.pending ++ reached u.state ≡ stop ∷ left
  next = first-some (u.pending ++ reached u.state) stop first

  one_less : length s.stops + 1 + length left ≡ length u.state.stops + length u.pending
  one_less = omega (arith, as_many u.state u.pending, ap (λ (stops : List Stop). length stops) next)

  head : (f : Stop → ℕ) → sum_by f (u.pending ++ reached u.state) ≡ f stop + sum_by f left
  head f = ap (λ (stops : List Stop). sum_by f stops) next ∙ sum_by-cons f stop left

  names : (m r : ℕ) → uses m r s + cond (is_stop_named m r stop) 1 0 + count_by (is_stop_named m r) left ≤ 1
  names m r = omega (arith, (taken-standing u can).names m r, head (λ (x : Stop). cond (is_stop_named m r x) 1 0))

  have : HaveUnits (stop ∷ left)
  have = subst HaveUnits next (taken-standing u can).pending_units

  free : has_order s stop.member stop.reference ≡ false
  free =
      let once : ℕ = 1 in
      let here : cond (is_stop_named stop.member stop.reference stop) 1 0 ≡ once = rw (named-self stop) refl in
      unnamed stop.member stop.reference s.orders (let l = names stop.member stop.reference in omega arith)

  pub next-can-come : CanComeIn before (order_of_stop stop)
  next-can-come =
      record {
        joins = record { ready = refl; name = free; rest = All-head (λ (x : Stop). is_in_range x.quantity ≡ true) stop left have; accepted = can.accepted };
        sweeps = omega (arith, can.sweeps, can.accepted, one_less);
      }

  kept_stops : length after.state.stops ≡ length s.stops
  kept_stops = ap (λ (stops : List Stop). length stops) (come-stops s (order_of_stop stop))

  standing : CanSettle after
  standing =
      let keeps = come-keeps s (order_of_stop stop) in
      record {
        ready = refl;
        accepted = omega (arith, can.accepted, keeps.accepted, ap (λ (x : DeskSettings). x.limit) keeps.settings);
        sweeps = omega (
          arith,
          can.sweeps,
          one_less,
          kept_stops,
          keeps.accepted,
          come-sweeps s (order_of_stop stop),
          ap (λ (x : DeskSettings). came x 0) keeps.settings,
        );
        names = λ m r. (let l = names m r in omega (arith, come-uses m r s (order_of_stop stop)));
        units = subst HaveUnits (sym (come-stops s (order_of_stop stop))) (taken-standing u can).units;
        pending_units = All-tail (λ (x : Stop). is_in_range x.quantity ≡ true) stop left have;
      }

  pub turns : (w : Unsettled) → w ≡ after → Makes before w → Turns u w
  turns w is made =
      let goal : Unsettled → Type 0 = λ x. Makes u x → Turns u x in
      let here : goal after = λ m. record {
        fewer = omega (arith, one_less, kept_stops);
        same = sym (settle-turn u.state u.pending stop left next);
        told = sym (ap (seen_after u.seen) (settling-turn u.state u.pending stop left next) ∙ seen-append came_in (come_events s (order_of_stop stop)) (settle_events (come s (order_of_stop stop)) left));
        standing = standing;
        made = m;
      } in
      subst goal (sym is) here (makes-both u before w (makes-none u before refl (omega (arith, one_less))) made)

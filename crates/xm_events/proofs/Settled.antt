-- What settling does: outside of continuous trading nothing takes a number, and an interruption takes one.
use Rattle.std.proofs.Common.{◌≡◌, ℕ, zero, suc, Bool, true, false, ◌&&◌, if◌then◌else◌, List, [], ◌∷◌, ◌++◌, None, refl, ap, ◌∙◌, arith}
use Rattle.xm_events.specs.Story.{come_events, pending_events, settle_in_events, sweep_events}
use Rattle.xm_events.specs.declared.events.Event.{Event}
use Rattle.xm_events.specs.declared.events.Event.TheVariants.{Triggered}
use Rattle.xm_rules.specs.Settling.{come, is_continuous, is_free, order_of_stop, reached, released, settle_in, take_pending}
use Rattle.xm_rules.specs.State.{State}
use Rattle.xm_rules.specs.declared.orders.Order.{Order}
use Rattle.xm_rules.specs.declared.orders.Stop.{Stop}
use Rattle.xm_events.proofs.InEvents.{price_told}
use Rattle.xm_events.proofs.Numbers.{ComesLater, come_joins, come_sweeps, later_none, later_on, swept_later}

-- events lead from a state to a later one; outside of continuous trading no number is taken and trading isn't interrupted, and
-- neither is it where no number is taken
pub record Settles (s t : State) (es : List Event) : Type 0 where
  pub later : ComesLater s t
  pub quiet : is_continuous s.phase ≡ false → (price_told es ≡ None) × (t.sweeps ≡ s.sweeps)
  pub none : t.sweeps ≡ s.sweeps → price_told es ≡ None

settles_idle : (s t : State) → t.trades ≡ s.trades → t.sweeps ≡ s.sweeps → Settles s t []
settles_idle s t trades sweeps = record { later = later_none s t trades sweeps; quiet = λ e. (refl, sweeps); none = λ e. refl }

-- an order that isn't swept tells nothing
pub joining_tells : (s : State) (o : Order) → (is_continuous s.phase && is_free o.restriction) ≡ false → come_events s o ≡ []
joining_tells s o e = λ k. if e k then sweep_events s o else []

pub sweeping_told : (s : State) (o : Order) → (is_continuous s.phase && is_free o.restriction) ≡ true → come_events s o ≡ sweep_events s o
sweeping_told s o e = λ k. if e k then sweep_events s o else []

-- the order of a stop is free
pub stop_sweeps : (s : State) (stop : Stop) (b : Bool) → is_continuous s.phase ≡ b → (is_continuous s.phase && is_free (order_of_stop stop).restriction) ≡ b
stop_sweeps s stop true e = λ k. e k && true
stop_sweeps s stop false e = λ k. e k && true

module _ (more : State → List Stop → State) (telling : State → List Stop → List Event) (each : (s : State) (pending : List Stop) → Settles s (more s pending) (telling s pending)) where
  taking_settles : (s : State) (pending : List Stop) → Settles s (take_pending more s pending) (pending_events telling s pending)
  taking_settles s [] = settles_idle s s refl refl
  taking_settles s (stop ∷ stops) = by (is_continuous s.phase) refl where
    by : (b : Bool) → is_continuous s.phase ≡ b → Settles s (more (come s (order_of_stop stop)) stops) (Triggered stop ∷ (come_events s (order_of_stop stop) ++ telling (come s (order_of_stop stop)) stops))
    by true e =
        let o = order_of_stop stop in
        let u = come s o in
        let swept = come_sweeps s o (stop_sweeps s stop true e) in
        let rest = each u stops in
        record {
          later = later_on s u (more u stops) (swept_later s o u swept) rest.later;
          quiet = λ n. absurd (cc (e, n));
          none = λ same. absurd (omega (arith, same, swept.sweeps, rest.later.counted));
        }
    by false e =
        let o = order_of_stop stop in
        let u = come s o in
        let off = stop_sweeps s stop false e in
        let joins = come_joins s o off in
        let rest = each u stops in
        let sweeps : u.sweeps ≡ s.sweeps = ap (λ (t : State). t.sweeps) joins in
        let quiet = rest.quiet (ap (λ (t : State). is_continuous t.phase) joins ∙ e) in
        let none : price_told (come_events s o ++ telling u stops) ≡ None = ap (λ (es : List Event). price_told (es ++ telling u stops)) (joining_tells s o off) ∙ quiet.0 in
        record {
          later = later_on s u (more u stops) (later_none s u (ap (λ (t : State). t.trades) joins) sweeps) rest.later;
          quiet = λ n. (none, quiet.1 ∙ sweeps);
          none = λ same. none;
        }

pub settled_in : (turns : ℕ) (s : State) (pending : List Stop) → Settles s (settle_in turns s pending) (settle_in_events turns s pending)
settled_in zero s pending = settles_idle s s refl refl
settled_in (suc turns) s pending =
    let a = taking_settles (settle_in turns) (settle_in_events turns) (settled_in turns) (released s) (pending ++ reached s) in
    record { later = record { more = a.later.more; trades = a.later.trades; each = a.later.each; counted = a.later.counted }; quiet = a.quiet; none = a.none }

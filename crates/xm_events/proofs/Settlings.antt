-- Settling, turn by turn: what happens by each.
use Rattle.std.proofs.Common.{◌≡◌, ℕ, zero, suc, ◌+◌, List, [], ◌∷◌, ◌++◌, length, refl, ap, ◌∙◌, arith}
use Rattle.xm_events.specs.Story.{come_events, settle_events, settle_in_events, pending_events}
use Rattle.xm_events.specs.declared.events.Event.{Event}
use Rattle.xm_events.specs.declared.events.Event.TheVariants.{Triggered}
use Rattle.xm_rules.proofs.ReachedStops.{as_many, come-stops}
use Rattle.xm_rules.specs.Settling.{come, order_of_stop, reached, released}
use Rattle.xm_rules.specs.State.{State}
use Rattle.xm_rules.specs.declared.orders.Stop.{Stop}

settling-with : (n : ℕ) (s : State) (pending : List Stop) → pending ++ reached s ≡ [] → settle_in_events n s pending ≡ []
settling-with zero s pending none = refl
settling-with (suc n) s pending none = ap (λ (stops : List Stop). pending_events (settle_in_events n) (released s) stops) none

-- where no stop is reached or pending, nothing happens
pub settling-none : (s : State) (pending : List Stop) → pending ++ reached s ≡ [] → settle_events s pending ≡ []
settling-none s pending none = settling-with (length s.stops + length pending) s pending none

settling-turned : (n : ℕ) (s : State) (pending : List Stop) (stop : Stop) (rest : List Stop) → length s.stops + length pending ≡ n → pending ++ reached s ≡ stop ∷ rest
    → settle_in_events n s pending ≡ Triggered stop ∷ (come_events (released s) (order_of_stop stop) ++ settle_events (come (released s) (order_of_stop stop)) rest)
settling-turned zero s pending stop rest e next = absurd (omega (arith, e, as_many s pending, ap (λ (stops : List Stop). length stops) next))
settling-turned (suc n) s pending stop rest e next =
    let t = come (released s) (order_of_stop stop) in
    let kept = ap (λ (stops : List Stop). length stops) (come-stops (released s) (order_of_stop stop)) in
    let left : n ≡ length t.stops + length rest = omega (arith, e, as_many s pending, ap (λ (stops : List Stop). length stops) next, kept) in
    ap (λ (stops : List Stop). pending_events (settle_in_events n) (released s) stops) next
    ∙ ap (λ (turns : ℕ). let all : List Event = Triggered stop ∷ (come_events (released s) (order_of_stop stop) ++ settle_in_events turns t rest) in all) left

-- else the first of them is triggered and comes in, and settling goes on from there
pub settling-turn : (s : State) (pending : List Stop) (stop : Stop) (rest : List Stop) → pending ++ reached s ≡ stop ∷ rest
    → settle_events s pending ≡ Triggered stop ∷ (come_events (released s) (order_of_stop stop) ++ settle_events (come (released s) (order_of_stop stop)) rest)
settling-turn s pending stop rest next = settling-turned (length s.stops + length pending) s pending stop rest refl next

-- Settling leaves no stop that is reached, and as many turns as there are stops suffice for it.
use Rattle.std.proofs.Common.{◌≡◌, ℕ, zero, suc, ◌+◌, ◌≤◌, ◌==◌, Bool, true, false, ◌&&◌, not, if◌then◌else◌, List, [], ◌∷◌, ◌++◌, length, length-append, All, refl, sym, ap, ◌∙◌, arith}
use Rattle.std.proofs.lemmas.List.Elements.{All-nil, All-weaker, filter_passes}
use Rattle.std.proofs.lemmas.List.Filters.{length-filter_both}
use Rattle.xm_rules.specs.Opening.{carried_over, opening}
use Rattle.xm_rules.specs.Settling.{come, is_continuous, is_free, is_reached, joined, order_of_stop, reached, released, settle, settle_in, sweep_of, swept, take_pending}
use Rattle.xm_rules.specs.State.{State, ref1}
use Rattle.xm_rules.specs.Step.{Journal, act, replay, step}
use Rattle.xm_rules.specs.Sweep.{rest_after}
use Rattle.xm_rules.specs.declared.commands.Command.{Command}
use Rattle.xm_rules.specs.declared.orders.Order.{Order}
use Rattle.xm_rules.specs.declared.orders.Stop.{Stop}
use Rattle.xm_rules.specs.declared.settings.DeskSettings.{DeskSettings}
use Rattle.xm_rules.proofs.Replays.{replay-has}

abbrev pub NoneReached : State → Type 0
NoneReached s = All (λ (stop : Stop). is_reached (ref1 s) stop ≡ false) s.stops

same_stops : (s t u : State) (b : Bool) → t.stops ≡ s.stops → u.stops ≡ s.stops → (if b then t else u).stops ≡ s.stops
same_stops s t u true e f = e
same_stops s t u false e f = f

pub come-stops : (s : State) (o : Order) → (come s o).stops ≡ s.stops
come-stops s o =
    same_stops s _ (joined s o) (is_continuous s.phase && is_free o.restriction)
    (same_stops s (swept s o) _ (rest_after (sweep_of s o) == 0) refl refl) refl

was_false : (b : Bool) → not b ≡ true → b ≡ false
was_false true e = absurd (cc)
was_false false e = refl

-- the stops that are left, held and released ones, are as many as before
pub as_many : (s : State) (pending : List Stop) → length (released s).stops + length (pending ++ reached s) ≡ length s.stops + length pending
as_many s pending = omega (arith, length-append pending (reached s), length-filter_both (is_reached (ref1 s)) (λ (stop : Stop). not (is_reached (ref1 s) stop)) (λ stop. refl) s.stops)

pub released-none : (s : State) → NoneReached (released s)
released-none s =
    All-weaker (λ (stop : Stop). not (is_reached (ref1 s) stop) ≡ true) (λ (stop : Stop). is_reached (ref1 s) stop ≡ false)
    (λ stop e. was_false (is_reached (ref1 s) stop) e) (released s).stops (filter_passes (λ (stop : Stop). not (is_reached (ref1 s) stop)) s.stops)

none_held : (s : State) (stops : List Stop) → s.stops ≡ stops → length stops ≤ 0 → NoneReached s
none_held s [] e few = rw e (All-nil (λ (stop : Stop). is_reached (ref1 s) stop ≡ false))
none_held s (stop ∷ stops) e few = absurd (omega (arith, few))

taken-none : (more : State → List Stop → State) (turns : ℕ) → ((s : State) (pending : List Stop) → length s.stops + length pending ≤ turns → NoneReached (more s pending))
    → (s : State) (pending : List Stop) → length s.stops + length pending ≤ suc turns → NoneReached s → NoneReached (take_pending more s pending)
taken-none more turns leaves s [] few none = none
taken-none more turns leaves s (stop ∷ stops) few none =
    leaves (come s (order_of_stop stop)) stops (omega (arith, few, ap length (come-stops s (order_of_stop stop))))

settled-none : (turns : ℕ) (s : State) (pending : List Stop) → length s.stops + length pending ≤ turns → NoneReached (settle_in turns s pending)
settled-none zero s pending few = none_held s s.stops refl (omega (arith, few))
settled-none (suc turns) s pending few =
    taken-none (settle_in turns) turns (settled-none turns) (released s) (pending ++ reached s) (omega (arith, few, as_many s pending)) (released-none s)

step-none : (s : State) (c : Command) → NoneReached (step s c)
unfolding step
step-none s c = settled-none (length (act s c).stops + 0) (act s c) [] (omega arith)

opening-none : (settings : DeskSettings) → NoneReached (opening settings)
unfolding opening
opening-none settings = let s = carried_over settings in settled-none (length s.stops + 0) s [] (omega arith)

pub none_reached : (j : Journal) → NoneReached (replay j)
none_reached j = replay-has NoneReached (λ s c none. step-none s c) j (opening-none j.settings)

-- ---- turns

turns_spare : (n : ℕ) (s : State) (held pending : List Stop) → s.stops ≡ held → length held + length pending ≤ 0 → s ≡ settle_in n s pending
turns_spare zero s held pending e few = refl
turns_spare (suc n) s [] [] e few = rw e refl
turns_spare (suc n) s [] (stop ∷ stops) e few = absurd (omega (arith, few))
turns_spare (suc n) s (stop ∷ stops) pending e few = absurd (omega (arith, few))

taken-same : (some other : State → List Stop → State) (turns more : ℕ)
    → ((s : State) (pending : List Stop) → length s.stops + length pending ≤ turns → length s.stops + length pending ≤ more → some s pending ≡ other s pending)
    → (s : State) (pending : List Stop) → length s.stops + length pending ≤ suc turns → length s.stops + length pending ≤ suc more
    → take_pending some s pending ≡ take_pending other s pending
taken-same some other turns more same s [] few rest = refl
taken-same some other turns more same s (stop ∷ stops) few rest =
    let kept = ap length (come-stops s (order_of_stop stop)) in
    same (come s (order_of_stop stop)) stops (omega (arith, few, kept)) (omega (arith, rest, kept))

enough : (turns more : ℕ) (s : State) (pending : List Stop) → length s.stops + length pending ≤ turns → length s.stops + length pending ≤ more
    → settle_in turns s pending ≡ settle_in more s pending
enough zero more s pending few rest = turns_spare more s s.stops pending refl (omega (arith, few))
enough (suc turns) zero s pending few rest = sym (turns_spare (suc turns) s s.stops pending refl (omega (arith, rest)))
enough (suc turns) (suc more) s pending few rest =
    let same = as_many s pending in
    taken-same (settle_in turns) (settle_in more) turns more (enough turns more) (released s) (pending ++ reached s) (omega (arith, few, same)) (omega (arith, rest, same))

pub more_turns : (s : State) (pending : List Stop) (more : ℕ) → settle_in (length s.stops + length pending + more) s pending ≡ settle s pending
more_turns s pending more = enough (length s.stops + length pending + more) (length s.stops + length pending) s pending (omega arith) (omega arith)

-- ---- one turn

nothing_released : (s : State) (held : List Stop) → s.stops ≡ held → length held ≤ 0 → s ≡ released s
nothing_released s [] e few = rw e refl
nothing_released s (stop ∷ stops) e few = absurd (omega (arith, few))

settled_with : (n : ℕ) (s : State) (pending : List Stop) → length s.stops + length pending ≡ n → pending ++ reached s ≡ [] → settle_in n s pending ≡ released s
settled_with zero s pending e none = nothing_released s s.stops refl (omega (arith, e))
settled_with (suc n) s pending e none = ap (λ (stops : List Stop). take_pending (settle_in n) (released s) stops) none

-- where no stop is reached or pending, nothing comes in
pub settle-none : (s : State) (pending : List Stop) → pending ++ reached s ≡ [] → settle s pending ≡ released s
settle-none s pending none = settled_with (length s.stops + length pending) s pending refl none

turned : (n : ℕ) (s : State) (pending : List Stop) (stop : Stop) (rest : List Stop) → length s.stops + length pending ≡ n → pending ++ reached s ≡ stop ∷ rest
    → settle_in n s pending ≡ settle (come (released s) (order_of_stop stop)) rest
turned zero s pending stop rest e next = absurd (omega (arith, e, as_many s pending, ap (λ (stops : List Stop). length stops) next))
turned (suc n) s pending stop rest e next =
    let t = come (released s) (order_of_stop stop) in
    let kept = ap (λ (stops : List Stop). length stops) (come-stops (released s) (order_of_stop stop)) in
    let left : n ≡ length t.stops + length rest = omega (arith, e, as_many s pending, ap (λ (stops : List Stop). length stops) next, kept) in
    ap (λ (stops : List Stop). take_pending (settle_in n) (released s) stops) next ∙ ap (λ (turns : ℕ). settle_in turns t rest) left

-- else the first of them comes in, and settling goes on from there
pub settle-turn : (s : State) (pending : List Stop) (stop : Stop) (rest : List Stop) → pending ++ reached s ≡ stop ∷ rest
    → settle s pending ≡ settle (come (released s) (order_of_stop stop)) rest
settle-turn s pending stop rest next = turned (length s.stops + length pending) s pending stop rest refl next

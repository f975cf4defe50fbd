-- Events with bare fills, to each of which is given what is left of its order.
use Rattle.std.proofs.Common.{◌≡◌, ℕ, ◌+◌, ◌≤◌, List, [], ◌∷◌, map, sum_by, None, refl, sym, ap, ap₂, ◌∙◌}
use Rattle.xm_events.specs.Life.{bare, taken, units_named, with_rest_before, with_rests}
use Rattle.xm_events.specs.Story.{story}
use Rattle.xm_events.specs.declared.events.Event.{Event}
use Rattle.xm_events.specs.declared.events.Event.TheVariants.{Filled, Accepted, Changed, Triggered, Cancelled, Deleted, Interrupted, Began}
use Rattle.xm_rules.specs.Refusals.{refusal_of}
use Rattle.xm_rules.specs.State.{State}
use Rattle.xm_rules.specs.Step.{step}
use Rattle.xm_rules.specs.declared.commands.Command.{Command}
use Rattle.xm_rules.proofs.OneName.{uses}
use Rattle.xm_rules.proofs.Orderings.{sum-map}
use Rattle.xm_rules.proofs.Sums.{sum-each}
use Rattle.xm_events.proofs.EachFill.{EachSays, SaysLeft}
use Rattle.xm_events.proofs.FillsOfCommands.{story_says}

-- a bare event takes what the event takes
bare_takes : (member reference : ℕ) (e : Event) → taken member reference (bare e) ≡ taken member reference e
bare_takes member reference (Filled f) = refl
bare_takes member reference (Accepted gone) = refl
bare_takes member reference (Changed o) = refl
bare_takes member reference (Triggered stop) = refl
bare_takes member reference (Cancelled gone) = refl
bare_takes member reference (Deleted gone reason) = refl
bare_takes member reference (Interrupted price range) = refl
bare_takes member reference (Began phase) = refl

bare_events_take : (member reference : ℕ) (es : List Event) → sum_by (taken member reference) (map bare es) ≡ sum_by (taken member reference) es
bare_events_take member reference es =
    sum-map (taken member reference) bare es ∙ sum-each (λ (e : Event). taken member reference (bare e)) (taken member reference) es (bare_takes member reference)

-- so a fill that says what is left is its bare one, with what those behind it take and what is left of its order
rest_again : (left : ℕ → ℕ → ℕ) (e : Event) (es : List Event) → SaysLeft left e es → with_rest_before left (bare e) (map bare es) ≡ e
rest_again left (Filled f) es says =
    ap (λ (rest : ℕ). Filled (record f { rest = rest })) (ap (λ (n : ℕ). n + left f.member f.reference) (bare_events_take f.member f.reference es) ∙ sym says)
rest_again left (Accepted gone) es says = refl
rest_again left (Changed o) es says = refl
rest_again left (Triggered stop) es says = refl
rest_again left (Cancelled gone) es says = refl
rest_again left (Deleted gone reason) es says = refl
rest_again left (Interrupted price range) es says = refl
rest_again left (Began phase) es says = refl

pub rests_again : (left : ℕ → ℕ → ℕ) (es : List Event) → EachSays left es → with_rests left (map bare es) ≡ es
rests_again left [] each = refl
rests_again left (e ∷ es) each = ap₂ (λ (x : Event) (xs : List Event). x ∷ xs) (rest_again left e es each.0) (rests_again left es each.1)

-- the story of a command is its bare events, each with what those behind it take and what the state after it has
pub story_of_bare : (s : State) (c : Command) → refusal_of s c ≡ None → ((member reference : ℕ) → uses member reference s ≤ 1)
    → story s c ≡ with_rests (units_named (step s c)) (map bare (story s c))
story_of_bare s c accepted names = sym (rests_again (units_named (step s c)) (story s c) (story_says s c accepted names))

-- The watches of a row after one of them was answered, or read.
use Rattle.std.proofs.Common.{◌≡◌, ◌≤◌, ℕ, zero, suc, List, [], ◌∷◌, length, refl, arith, Option, None, Some, Err}
use Rattle.std.specs.Prelude.{slice_get}
use Rattle.xm_board.specs.declared.watch.Known.{Known}
use Rattle.xm_rules.specs.declared.commands.Command.{Command}
use Rattle.xm_rules.specs.declared.replies.Refusal.TheVariants.{UnknownSecurity}
use Rattle.xm_rules.specs.declared.settings.DeskSettings.{DeskSettings}
use Rattle.xm_segment.specs.Answers.{IsAnsweredOn, IsShownOn}

-- past the last security there is none
pub none-at : (settings : List DeskSettings) (k : ℕ) → length settings ≤ k → slice_get settings k ≡ None
none-at [] k past = refl
none-at (s ∷ ss) zero past = absurd (omega (arith, past))
none-at (s ∷ ss) (suc k) past = none-at ss k (omega (arith, past))

pub unknown-on : (k : ℕ) (here : Option DeskSettings) (c : Command) (ws : List (Option Known)) → here ≡ None → length ws ≤ k → IsAnsweredOn k here c (Err UnknownSecurity) ws ws
unknown-on k None c [] none past = refl
unknown-on k (Some o) c [] none past = absurd (cc)
unknown-on zero here c (w ∷ ws) none past = absurd (omega (arith, past))
unknown-on (suc k) here c (w ∷ ws) none past = (refl, unknown-on k here c ws none (omega (arith, past)))

pub unshown-on : (k : ℕ) (here : Option DeskSettings) (ws : List (Option Known)) → here ≡ None → length ws ≤ k → IsShownOn k here None ws ws
unshown-on k None [] none past = tt
unshown-on k (Some o) [] none past = absurd (cc)
unshown-on zero here (w ∷ ws) none past = absurd (omega (arith, past))
unshown-on (suc k) here (w ∷ ws) none past = (refl, unshown-on k here ws none (omega (arith, past)))

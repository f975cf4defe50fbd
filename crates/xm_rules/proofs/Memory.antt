-- Want of memory is no refusal of the rules.
use Rattle.std.proofs.Common.{◌≡◌, ◌≢◌, Bool, true, false, ◌||◌, if◌then◌else◌, List, [], ◌∷◌, Option, Some, refl}
use Rattle.std.specs.List.{list_any}
use Rattle.xm_rules.specs.Refusals.{Check, checks, first_failing, refusal_of}
use Rattle.xm_rules.specs.State.{State}
use Rattle.xm_rules.specs.declared.commands.Command.{Command}
use Rattle.xm_rules.specs.declared.commands.Command.TheVariants.{Enter, Change, Cancel, CancelAll}
use Rattle.xm_rules.specs.declared.replies.Refusal.{Refusal}
use Rattle.xm_rules.specs.declared.replies.Refusal.TheVariants.{OutOfMemory}

abbrev is_memory : Refusal → Bool
is_memory (OutOfMemory _) = true
is_memory _ = false

among_if : (b : Bool) (own : Refusal) (rest : Option Refusal) (refusal : Refusal) (later : Bool) → is_memory refusal ≡ true → (rest ≡ Some refusal → later ≡ true) → (if b then Some own else rest) ≡ Some refusal → (is_memory own || later) ≡ true
among_if true own rest refusal later m more h = let same : own ≡ refusal = cc in rw (same, m) refl
among_if false own rest refusal later m more h = or_true (is_memory own) later (more h) where
  or_true : (a b : Bool) → b ≡ true → (a || b) ≡ true
  or_true true b e = refl
  or_true false b e = e

among : (cs : List Check) (refusal : Refusal) → is_memory refusal ≡ true → first_failing cs ≡ Some refusal → list_any (λ (c : Check). is_memory c.refusal) cs ≡ true
among [] refusal m h = cc
among (c ∷ cs) refusal m h = among_if c.fails c.refusal (first_failing cs) refusal _ m (among cs refusal m) h

none : (s : State) (c : Command) → list_any (λ (check : Check). is_memory check.refusal) (checks s c) ≡ false
none s (Enter member reference side k quantity validity restriction condition) = refl
none s (Change member reference quantity limit) = refl
none s (Cancel member reference) = refl
none s (CancelAll member) = refl
none s _ = refl

pub refusal-not_memory : (s : State) (c : Command) → refusal_of s c ≢ Some (OutOfMemory tt)
unfolding refusal_of
refusal-not_memory s c h = let is = among (checks s c) (OutOfMemory tt) refl h in let no = none s c in cc

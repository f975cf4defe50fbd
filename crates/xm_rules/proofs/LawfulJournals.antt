-- What a lawful journal says of each of its commands.
use Rattle.std.proofs.Common.{◌≡◌, true, false, List, [], ◌∷◌, ◌++◌, Option, Some, None, refl}
use Rattle.std.specs.Prelude.{is_none}
use Rattle.std.proofs.lemmas.Bool.{and_parts, and_left, and_right}
use Rattle.xm_rules.specs.Refusals.{refusal_of}
use Rattle.xm_rules.specs.State.{State}
use Rattle.xm_rules.specs.Step.{step, replay_from, is_lawful_from}
use Rattle.xm_rules.specs.declared.commands.Command.{Command}
use Rattle.xm_rules.specs.declared.replies.Refusal.{Refusal}

pub none_from_test : {A : Type 0} (o : Option A) → is_none o ≡ true → o ≡ None
none_from_test None e = refl
none_from_test (Some x) e = absurd (cc)

some_is_not_none : {A : Type 0} (o : Option A) (x : A) → o ≡ Some x → is_none o ≡ false
some_is_not_none None x e = absurd (cc)
some_is_not_none (Some y) x e = refl

-- a command of a lawful list isn't refused where it stands
pub lawful_at : (s : State) (commands : List Command) (c : Command) (more : List Command)
    → is_lawful_from s (commands ++ c ∷ more) ≡ true → refusal_of (replay_from s commands) c ≡ None
lawful_at s [] c more e = none_from_test (refusal_of s c) (and_parts (is_none (refusal_of s c)) (is_lawful_from (step s c) more) e).0
lawful_at s (d ∷ ds) c more e =
    lawful_at (step s d) ds c more (and_parts (is_none (refusal_of s d)) (is_lawful_from (step s d) (ds ++ c ∷ more)) e).1

-- a list is not lawful where one of its commands is refused
pub unlawful_at : (s : State) (commands : List Command) (c : Command) (more : List Command) (r : Refusal)
    → refusal_of (replay_from s commands) c ≡ Some r → is_lawful_from s (commands ++ c ∷ more) ≡ false
unlawful_at s [] c more r e = and_left (is_none (refusal_of s c)) (is_lawful_from (step s c) more) (some_is_not_none (refusal_of s c) r e)
unlawful_at s (d ∷ ds) c more r e =
    and_right (is_none (refusal_of s d)) (is_lawful_from (step s d) (ds ++ c ∷ more)) (unlawful_at (step s d) ds c more r e)

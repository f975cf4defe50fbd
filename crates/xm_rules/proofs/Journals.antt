-- What a replay by one command more is, and what a lawful journal keeps.
use Rattle.std.proofs.Common.{◌≡◌, ◌+◌, Bool, true, ◌&&◌, List, [], ◌∷◌, ◌++◌, drop, length, None, is_none, refl, ap, ap₂, arith}
use Rattle.std.proofs.lemmas.Bool.{and_parts}
use Rattle.xm_rules.specs.Opening.{are_carriable, opening}
use Rattle.xm_rules.specs.Refusals.{refusal_of}
use Rattle.xm_rules.specs.State.{State}
use Rattle.xm_rules.specs.Step.{Journal, step, replay, replay_from, is_lawful, is_lawful_from, reply}
use Rattle.xm_rules.specs.Sums.{total_money, total_quantity}
use Rattle.xm_rules.specs.declared.commands.Command.{Command}
use Rattle.xm_rules.specs.declared.settings.DeskSettings.{DeskSettings}

pub replay_from-push : (s : State) (cs : List Command) (c : Command) → replay_from s (cs ++ c ∷ []) ≡ step (replay_from s cs) c
replay_from-push s [] c = refl
replay_from-push s (d ∷ ds) c = replay_from-push (step s d) ds c

pub is_lawful_from-push : (s : State) (cs : List Command) (c : Command) → is_lawful_from s cs ≡ true → refusal_of (replay_from s cs) c ≡ None → is_lawful_from s (cs ++ c ∷ []) ≡ true
is_lawful_from-push s [] c h r = rw r refl
is_lawful_from-push s (d ∷ ds) c h r =
    let holds = and_parts (is_none (refusal_of s d)) (is_lawful_from (step s d) ds) h in
    rw holds.0 (is_lawful_from-push (step s d) ds c holds.1 r)

-- a journal that is opened, and one that takes a command more
abbrev pub journal_of : DeskSettings → List Command → Journal
journal_of settings commands = record { settings = settings; commands = commands }

pub replay-opening : (settings : DeskSettings) → replay (journal_of settings []) ≡ opening settings
unfolding replay
replay-opening settings = refl

pub replay-push : (j : Journal) (c : Command) → replay (journal_of j.settings (j.commands ++ c ∷ [])) ≡ step (replay j) c
unfolding replay
replay-push j c = replay_from-push (opening j.settings) j.commands c

pub is_lawful-opening : (settings : DeskSettings) → are_carriable settings ≡ true → is_lawful (journal_of settings []) ≡ true
unfolding is_lawful
is_lawful-opening settings h = ap (λ (b : Bool). b && true) h

pub carries : (j : Journal) → is_lawful j ≡ true → are_carriable j.settings ≡ true
unfolding is_lawful
carries j h = (and_parts (are_carriable j.settings) (is_lawful_from (opening j.settings) j.commands) h).0

pub is_lawful-push : (j : Journal) (c : Command) → is_lawful j ≡ true → refusal_of (replay j) c ≡ None → is_lawful (journal_of j.settings (j.commands ++ c ∷ [])) ≡ true
unfolding replay is_lawful
is_lawful-push j c h r =
    let parts = and_parts (are_carriable j.settings) (is_lawful_from (opening j.settings) j.commands) h in
    ap₂ (λ (a b : Bool). a && b) parts.0 (is_lawful_from-push (opening j.settings) j.commands c parts.1 r)

-- the number of accepted commands is that of the journal
pub step-accepted : (s : State) (c : Command) → (step s c).accepted ≡ s.accepted + 1
unfolding step
step-accepted s c = refl

pub replay_from-accepted : (s : State) (cs : List Command) → (replay_from s cs).accepted ≡ s.accepted + length cs
replay_from-accepted s [] = omega arith
replay_from-accepted s (c ∷ cs) = omega (arith, step-accepted s c, replay_from-accepted (step s c) cs)

-- the parts of a reply
pub reply-parts : (s t : State)
    → reply s t ≡ (let trades = drop (length s.trades) t.trades in record { version = t.accepted; first_trade = length s.trades; trades = length trades; quantity = total_quantity trades; money = total_money trades; phase = t.phase })
unfolding reply
reply-parts s t = refl

-- What a journal that isn't kept is after one more command.
use Rattle.std.proofs.Common.{◌≡◌, List, [], ◌∷◌, ◌++◌, sym, ap, ◌∙◌}
use Rattle.std.specs.declared.snapshot.Snapshot.{Snapshot}
use Rattle.xm_desk.specs.Journals.{with_last_accepted, accepted_so_far}
use Rattle.xm_desk.specs.declared.journal.LastAccepted.{LastAccepted, fold-LastAccepted, fold-roll-LastAccepted}
use Rattle.xm_desk.specs.declared.journal.LastAccepted.TheOpen as open'
use Rattle.xm_desk.specs.declared.journal.LastAccepted.TheVariants.{Nothing, Accepted, rolls-Nothing, rolls-Accepted}
use Rattle.xm_rules.specs.declared.commands.Command.{Command}

pub accepted-nothing : accepted_so_far Nothing ≡ []
unfolding accepted_so_far
accepted-nothing = ap (fold-LastAccepted (List Command) with_last_accepted) (sym rolls-Nothing) ∙ fold-roll-LastAccepted (List Command) with_last_accepted open'.Nothing

accepted-snapshots : (command : Snapshot Command) (before : Snapshot LastAccepted) → accepted_so_far (Accepted command before) ≡ accepted_so_far before.value ++ command.value ∷ []
unfolding accepted_so_far
accepted-snapshots command before = ap (fold-LastAccepted (List Command) with_last_accepted) (sym (rolls-Accepted command before)) ∙ fold-roll-LastAccepted (List Command) with_last_accepted (open'.Accepted command before)

-- where the snapshots show a command and what was before
pub accepted-more : (shown : Snapshot Command) (before : Snapshot LastAccepted) (command : Command) (last : LastAccepted) → shown.value ≡ command → before.value ≡ last → accepted_so_far (Accepted shown before) ≡ accepted_so_far last ++ command ∷ []
accepted-more shown before command last e f = accepted-snapshots shown before ∙ (λ i. accepted_so_far (f i) ++ e i ∷ [])

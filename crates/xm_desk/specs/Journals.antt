-- The commands that a desk accepted, as a clause sees them where none is kept: those before the last one, and then this.
use Rattle.std.specs.Prelude.{List, [], ◌∷◌, ◌++◌}
use Rattle.xm_desk.specs.declared.journal.LastAccepted.{LastAccepted, LastAccepted-F, fold-LastAccepted}
use Rattle.xm_desk.specs.declared.journal.LastAccepted.TheOpen.{Nothing, Accepted}
use Rattle.xm_rules.specs.declared.commands.Command.{Command}

abbrev pub with_last_accepted : LastAccepted-F (List Command) → List Command
with_last_accepted Nothing = []
with_last_accepted (Accepted command before) = before.value ++ command.value ∷ []

unfoldable pub accepted_so_far : LastAccepted → List Command
accepted_so_far last = fold-LastAccepted (List Command) with_last_accepted last

-- What an answer does to the journal of a desk.
use Rattle.std.specs.Prelude.{List, [], ◌∷◌, ◌++◌, Option, Some, None}
use Rattle.xm_rules.specs.Refusals.{refusal_of}
use Rattle.xm_rules.specs.Step.{Journal, replay}
use Rattle.xm_rules.specs.declared.commands.Command.{Command}
use Rattle.xm_rules.specs.declared.replies.Refusal.{Refusal}

abbrev pub if_accepted : Option Refusal → Journal → Command → Journal
if_accepted None j command = record j { commands = j.commands ++ command ∷ [] }
if_accepted (Some refusal) j command = j

-- a journal behind a command that its desk answered: it stands there, unless it was refused
abbrev pub journal_after : Journal → Command → Journal
journal_after j command = if_accepted (refusal_of (replay j) command) j command

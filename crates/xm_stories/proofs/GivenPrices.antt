-- The prices of a command that isn't refused.
use Rattle.std.proofs.Common.{◌≡◌, None}
use Rattle.xm_rules.specs.Refusals.{refusal_of}
use Rattle.xm_rules.specs.State.{State}
use Rattle.xm_rules.specs.declared.commands.Command.{Command}
use Rattle.xm_rules.specs.declared.commands.Command.TheVariants.{Enter, Change}
use Rattle.xm_rules.proofs.Accepted.{change-accepted, entry-accepted}
use Rattle.xm_stories.specs.Around.{GivesPricesInRange}

pub prices-given : (s : State) (c : Command) → refusal_of s c ≡ None → GivesPricesInRange c
prices-given s (Enter member reference side kind quantity validity restriction condition) accepted =
    (entry-accepted s member reference side kind quantity validity restriction condition accepted).prices
prices-given s (Change member reference quantity limit) accepted = (change-accepted s member reference quantity limit accepted).limit
prices-given s _ accepted = tt

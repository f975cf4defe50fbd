-- What a desk keeps of what happened by its last command: what its trades, its orders and its stops don't tell.
use Rattle.std.specs.Prelude.{ℕ, List, [], ◌∷◌, ◌++◌, Option, Some, None}
use Rattle.xm_events.specs.Story.{story}
use Rattle.xm_events.specs.declared.events.Event.{Event}
use Rattle.xm_events.specs.declared.events.Event.TheVariants.{Triggered, Interrupted}
use Rattle.xm_rules.specs.Opening.{opening}
use Rattle.xm_rules.specs.State.{State}
use Rattle.xm_rules.specs.Step.{Journal, step}
use Rattle.xm_rules.specs.declared.commands.Command.{Command}
use Rattle.xm_rules.specs.declared.orders.Stop.{Stop}

pub record Seen : Type 0 where
  -- the stops that were triggered, in the order in which they came in
  pub triggered : List Stop
  -- the price that interrupted trading, or led a call to its next stage, where one did
  pub interruption : Option ℕ

abbrev pub nothing_seen : Seen
nothing_seen = record { triggered = []; interruption = None }

-- the later of two prices, where there is one
abbrev pub latest : Option ℕ → Option ℕ → Option ℕ
latest before None = before
latest before (Some price) = Some price

-- with what these events tell
abbrev pub seen_after : Seen → List Event → Seen
seen_after seen [] = seen
seen_after seen (Triggered stop ∷ more) = seen_after (record seen { triggered = seen.triggered ++ stop ∷ [] }) more
seen_after seen (Interrupted price range ∷ more) = seen_after (record seen { interruption = Some price }) more
seen_after seen (event ∷ more) = seen_after seen more

-- what is seen of a command
unfoldable pub seen_of : State → Command → Seen
seen_of s command = seen_after nothing_seen (story s command)

-- what is seen of the last of these commands
abbrev pub seen_of_last : State → List Command → Seen
seen_of_last s [] = nothing_seen
seen_of_last s (c ∷ []) = seen_of s c
seen_of_last s (c ∷ d ∷ more) = seen_of_last (step s c) (d ∷ more)

-- what is seen of the last command of a journal
abbrev pub last_seen : Journal → Seen
last_seen j = seen_of_last (opening j.settings) j.commands

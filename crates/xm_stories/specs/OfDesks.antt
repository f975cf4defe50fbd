-- What a desk tells of a command that it answers.
use Rattle.std.specs.Prelude.{Bool, if◌then◌else◌, ◌≡◌, ◌≤◌, ◌<◌, ◌^◌, ℕ, List, [], ◌∷◌, ◌++◌, length, Option, None, Some, true}
use Rattle.xm_desk.specs.Answered.{journal_after}
use Rattle.xm_events.specs.Story.{story}
use Rattle.xm_events.specs.declared.events.Event.{Event}
use Rattle.xm_rules.specs.Refusals.{refusal_of}
use Rattle.xm_rules.specs.State.{State}
use Rattle.xm_rules.specs.Step.{Journal, is_lawful, new_trades, replay}
use Rattle.xm_rules.specs.declared.commands.Command.{Command}
use Rattle.xm_rules.specs.declared.replies.Refusal.{Refusal}
use Rattle.xm_stories.specs.Around.{IsBefore}
use Rattle.xm_stories.specs.declared.around.Before.{Before}
use Rattle.xm_ticks.specs.declared.ranges.TheConstants.{MAX_WIDTH}

-- what happens by a command that is refused for this reason, if it is: nothing, or else its story
abbrev pub story_by : State → Command → Option Refusal → List Event
story_by s command None = story s command
story_by s command (Some refusal) = []

-- where memory was wanting, a desk stands as before the command, or as behind it
abbrev pub StandsBeforeOrBehind : Journal → Command → Journal → Type 0
StandsBeforeOrBehind before command after = (answered : Bool) × (after ≡ (if answered then journal_after before command else before))

module _ {A : Type 0} where
  -- a desk has just taken a command behind a lawful journal, of which these are the values, with so many trades
  pub record HasJustTaken (desk : Journal) (command : Command) (before : Before A) (first : ℕ) (j : Journal) : Type 0 where
    pub lawful : is_lawful j ≡ true
    pub accepted : refusal_of (replay j) command ≡ None
    pub is_before : IsBefore (replay j) command before
    pub narrow : before.widths.dynamic ≤ MAX_WIDTH
    pub few : before.sweeps < 2 ^ 62
    pub journal : desk ≡ record j { commands = j.commands ++ command ∷ [] }
    pub first_is : first ≡ length (replay j).trades
    pub appended : (replay desk).trades ≡ (replay j).trades ++ new_trades (replay j) (replay desk)

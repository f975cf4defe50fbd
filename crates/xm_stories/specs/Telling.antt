-- When a story with the rests of its fills can be told.
use Rattle.std.specs.Prelude.{◌≡◌, ℕ, List, None, true}
use Rattle.xm_events.specs.Life.{units_named}
use Rattle.xm_events.specs.Seen.{Seen, seen_of}
use Rattle.xm_events.specs.SeenStory.{seen_story}
use Rattle.xm_rules.specs.Refusals.{refusal_of}
use Rattle.xm_rules.specs.State.{State}
use Rattle.xm_rules.specs.Step.{Journal, is_lawful, new_trades, replay, step}
use Rattle.xm_rules.specs.declared.commands.Command.{Command}
use Rattle.xm_rules.specs.declared.orders.Stop.{Stop}
use Rattle.xm_rules.specs.declared.orders.Trade.{Trade}
use Rattle.xm_stories.specs.Around.{IsAfter, IsBefore}
use Rattle.xm_stories.specs.TakenUnits.{UnitsFit}
use Rattle.xm_stories.specs.declared.around.After.{After}
use Rattle.xm_stories.specs.declared.around.Before.{Before}

module _ {A : Type 0} where
  -- the values are those of two states between which the units of each name fit 32 bits
  pub record CanBeTold (left : ℕ → ℕ → ℕ) (command : Command) (before : Before A) (after : After) (trades : List Trade) (triggered : List Stop) : Type 0 where
    pub s : State
    pub t : State
    pub is_before : IsBefore s command before
    pub is_after : IsAfter t after
    pub fit : UnitsFit left (seen_story s command (record { triggered = triggered; interruption = after.interruption }) trades t)

  -- a lawful journal takes the command, and the values are those of the states before and behind it
  pub record IsTakenByJournal (j : Journal) (left : ℕ → ℕ → ℕ) (command : Command) (before : Before A) (after : After) (trades : List Trade) (triggered : List Stop) : Type 0 where
    pub lawful : is_lawful j ≡ true
    pub accepted : refusal_of (replay j) command ≡ None
    pub is_before : IsBefore (replay j) command before
    pub is_after : IsAfter (step (replay j) command) after
    pub trades_are : trades ≡ new_trades (replay j) (step (replay j) command)
    pub seen_is : ◌≡◌ {A = Seen} (record { triggered = triggered; interruption = after.interruption }) (seen_of (replay j) command)
    pub left_are : (member reference : ℕ) → left member reference ≡ units_named (step (replay j) command) member reference

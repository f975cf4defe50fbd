-- What lies around a command, as plain values: what is asked of the state before it, and of the state after it.
use Rattle.std.specs.Prelude.{◌≡◌, ◌==◌, IsTrue, List, filter, find, Option, Some, None, not}
use Rattle.xm_events.specs.SeenStory.{Outcome}
use Rattle.xm_events.specs.declared.events.Deletion.{Deletion}
use Rattle.xm_events.specs.declared.events.Entry.{Entry}
use Rattle.xm_events.specs.declared.events.Event.{Event}
use Rattle.xm_events.specs.declared.events.Event.TheVariants.{Cancelled, Deleted}
use Rattle.xm_rules.specs.Commands.{has_prices_in_range, outlasts}
use Rattle.xm_rules.specs.Orders.{is_named, is_stop_named}
use Rattle.xm_rules.specs.Refusals.{is_given_in_range}
use Rattle.xm_rules.specs.State.{State, ref1}
use Rattle.xm_rules.specs.declared.commands.Command.{Command}
use Rattle.xm_rules.specs.declared.commands.Command.TheVariants.{Enter, Change, Cancel, CancelAll, EndDay}
use Rattle.xm_rules.specs.declared.orders.Order.{Order}
use Rattle.xm_rules.specs.declared.orders.Stop.{Stop}
use Rattle.xm_stories.specs.declared.around.After.{After}
use Rattle.xm_stories.specs.declared.around.Before.{Before}
use Rattle.xm_stories.specs.declared.around.Between.{Between}
use Rattle.xm_stories.specs.declared.around.Touched.{Touched}
use Rattle.xm_stories.specs.declared.around.Touched.TheVariants.{Nothing, Changing, Leaving}

-- the prices that a command gives are in range, as those of each command that isn't refused
abbrev pub GivesPricesInRange : Command → Type 0
GivesPricesInRange (Enter member reference side kind quantity validity restriction condition) = IsTrue (has_prices_in_range kind)
GivesPricesInRange (Change member reference quantity limit) = IsTrue (is_given_in_range limit)
GivesPricesInRange _ = Unit {0}

-- what is the same for all orders that come in
abbrev pub outcome_in : Between → Outcome
outcome_in between = record { widths = between.widths; last = between.sweeps_after; interruption = between.interruption }

-- what leaves by its member, or by the market for this reason
abbrev pub gone_for : Option Deletion → Entry → Event
gone_for None gone = Cancelled gone
gone_for (Some reason) gone = Deleted gone reason

module _ {A : Type 0} where
  -- what is the same for all orders that come in between these
  abbrev pub between_of : Before A → After → Between
  between_of before after =
      record { widths = before.widths; sweeps = before.sweeps; last = before.last; sweeps_after = after.sweeps; interruption = after.interruption }

  -- the order that a change finds
  abbrev pub IsFound : Option Order → Touched A → Type 0
  IsFound found (Changing o) = found ≡ Some o
  IsFound found (Leaving orders stops) = ⊥
  IsFound found Nothing = found ≡ None

  -- the orders and the stops that leave
  abbrev pub AreLeaving : List Order → List Stop → Touched A → Type 0
  AreLeaving orders stops (Leaving os ss) = (os.items ≡ orders) × (ss.items ≡ stops)
  AreLeaving orders stops _ = ⊥

  -- what a command touches of the state before it
  abbrev pub IsTouched : State → Command → Touched A → Type 0
  IsTouched s (Change member reference quantity limit) touched = IsFound (find (is_named member reference) s.orders) touched
  IsTouched s (Cancel member reference) touched = AreLeaving (filter (is_named member reference) s.orders) (filter (is_stop_named member reference) s.stops) touched
  IsTouched s (CancelAll member) touched =
      AreLeaving (filter (λ (o : Order). o.member == member) s.orders) (filter (λ (stop : Stop). stop.member == member) s.stops) touched
  IsTouched s EndDay touched =
      let today = s.settings.today in
      AreLeaving (filter (λ (o : Order). not (outlasts today o.validity)) s.orders) (filter (λ (stop : Stop). not (outlasts today stop.validity)) s.stops) touched
  IsTouched s _ touched = Unit {0}

  -- these are the values of the state before a command
  pub record IsBefore (s : State) (command : Command) (before : Before A) : Type 0 where
    pub phase : before.phase ≡ s.phase
    pub sweeps : before.sweeps ≡ s.sweeps
    pub widths : before.widths ≡ s.settings.widths
    pub last : before.last ≡ ref1 s
    pub touched : IsTouched s command before.touched

-- these are the values of the state after it
pub record IsAfter (t : State) (after : After) : Type 0 where
  pub sweeps : after.sweeps ≡ t.sweeps
  pub phase : after.phase ≡ t.phase

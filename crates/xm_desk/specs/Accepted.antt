-- What an accepted command does.
use Rattle.std.specs.Prelude.{◌≡◌, ℕ, if◌then◌else◌, find, Option, Some, None}
use Rattle.std.specs.Option.{option_map}
use Rattle.xm_desk.specs.declared.accepted.Accepted.{Accepted}
use Rattle.xm_desk.specs.declared.accepted.Action.{Action}
use Rattle.xm_desk.specs.declared.accepted.Action.TheVariants as action
use Rattle.xm_rules.specs.Commands.{trigger_of}
use Rattle.xm_rules.specs.Orders.{is_named}
use Rattle.xm_rules.specs.Refusals.{refusal_of}
use Rattle.xm_rules.specs.State.{State}
use Rattle.xm_rules.specs.Step.{changed_order, entered_order, keeps_priority, stop_of}
use Rattle.xm_rules.specs.declared.commands.Command.{Command}
use Rattle.xm_rules.specs.declared.commands.Command.TheVariants.{Enter, Change, Cancel, CancelAll, StartOpening, StartIntraday, StartClosing, Uncross, EndDay}
use Rattle.xm_rules.specs.declared.commands.Condition.{Condition}
use Rattle.xm_rules.specs.declared.orders.Order.{Order}
use Rattle.xm_rules.specs.declared.phases.Auction.TheVariants.{Opening, Intraday, Closing}
use Rattle.xm_rules.specs.declared.phases.Phase.{Phase}
use Rattle.xm_rules.specs.declared.phases.Phase.TheVariants.{Call}

-- an entry with a trigger is a stop, any other an order
abbrev pub entering : Condition → Option ℕ → Order → Action
entering condition None o = action.Enter o condition
entering condition (Some trigger) o = action.Hold (stop_of trigger o)

-- a changed order keeps its priority, or comes in again
abbrev pub changing : ℕ → Option ℕ → Order → Action
changing quantity limit o = if keeps_priority quantity limit o then action.Reduce o.member o.reference quantity else action.Replace (changed_order quantity limit o)

abbrev pub ending : Phase → Option Action
ending (Call auction stage) = Some (action.EndCall auction stage)
ending _ = None

-- what a command does in a state: nothing is said of the change of an order that isn't there, or of a call's end outside a call
abbrev pub action_of : State → Command → Option Action
action_of s (Enter member reference side kind quantity validity restriction condition) =
    Some (entering condition (trigger_of kind) (entered_order member reference side kind quantity validity restriction))
action_of s (Change member reference quantity limit) = option_map (changing quantity limit) (find (is_named member reference) s.orders)
action_of s (Cancel member reference) = Some (action.Cancel member reference)
action_of s (CancelAll member) = Some (action.CancelAll member)
action_of s StartOpening = Some (action.StartCall Opening)
action_of s StartIntraday = Some (action.StartCall Intraday)
action_of s StartClosing = Some (action.StartCall Closing)
action_of s Uncross = ending s.phase
action_of s EndDay = Some action.EndDay

-- what the command does that it was made of, which isn't refused
pub record IsAccepted (s : State) (a : Accepted) : Type 0 where
  pub lawful : refusal_of s a.command.value ≡ None
  pub does : action_of s a.command.value ≡ Some a.action

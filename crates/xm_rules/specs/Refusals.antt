-- The refusal of a command: the first of its checks that fails. Memory isn't asked.
use Rattle.std.specs.Prelude.{ℕ, ◌+◌, Bool, true, false, ◌&&◌, ◌||◌, not, nat_le, List, [], ◌∷◌, ◌++◌, Option, Some, None, if◌then◌else◌, find}
use Rattle.std.specs.List.{list_any}
use Rattle.xm_rules.specs.Commands.{member_of, is_in_range, trigger_of, has_prices_in_range, is_over, is_for_trading, is_book_or_cancel, is_bad_combination, order_kind}
use Rattle.xm_rules.specs.Crossing.{would_execute}
use Rattle.xm_rules.specs.Orders.{is_named, is_stop_named}
use Rattle.xm_rules.specs.Settling.{is_continuous}
use Rattle.xm_rules.specs.Sides.{reaches}
use Rattle.xm_rules.specs.State.{State, ref1}
use Rattle.xm_rules.specs.declared.settings.TheConstants.{PHASE_COMMANDS_MORE}
use Rattle.xm_rules.specs.declared.commands.Command.{Command}
use Rattle.xm_rules.specs.declared.commands.Command.TheVariants.{Enter, Change, Cancel, CancelAll, StartOpening, StartIntraday, StartClosing, Uncross, EndDay}
use Rattle.xm_rules.specs.declared.orders.Order.{Order}
use Rattle.xm_rules.specs.declared.orders.OrderKind.{OrderKind}
use Rattle.xm_rules.specs.declared.orders.OrderKind.TheVariants.{Market, Limit}
use Rattle.xm_rules.specs.declared.orders.Side.{Side}
use Rattle.xm_rules.specs.declared.phases.Phase.{Phase}
use Rattle.xm_rules.specs.declared.phases.Phase.TheVariants as phase
use Rattle.xm_rules.specs.declared.replies.Refusal.{Refusal}
use Rattle.xm_rules.specs.declared.replies.Refusal.TheVariants.{UnknownSecurity, UnknownMember, DayEnded, BadQuantity, BadPrice, BadValidity, BadCombination, WrongPhase, DuplicateReference, UnknownOrder, NotChangeable, TriggerReached, JournalFull, OutOfMemory, WouldExecute}

-- what is wrong, if it is, and the refusal for it
pub record Check : Type 0 where
  pub fails : Bool
  pub refusal : Refusal

abbrev pub first_failing : List Check → Option Refusal
first_failing [] = None
first_failing (c ∷ cs) = if c.fails then Some c.refusal else first_failing cs

abbrev pub is_unknown_member : State → Option ℕ → Bool
is_unknown_member s None = false
is_unknown_member s (Some member) = nat_le s.settings.members member

abbrev pub is_ended : Phase → Bool
is_ended phase.Ended = true
is_ended _ = false

-- the member has a live order, or a held stop, with this reference
abbrev pub has_order : State → ℕ → ℕ → Bool
has_order s member reference = list_any (is_named member reference) s.orders

abbrev pub has_stop : State → ℕ → ℕ → Bool
has_stop s member reference = list_any (is_stop_named member reference) s.stops

-- neither a live order nor a held stop has this name
abbrev pub is_unknown_order : State → ℕ → ℕ → Bool
is_unknown_order s member reference = not (has_order s member reference || has_stop s member reference)

-- no stop takes a change, and no market order a limit
abbrev pub is_limit_for_market : Option ℕ → Option Order → Bool
is_limit_for_market None o = false
is_limit_for_market (Some p) None = false
is_limit_for_market (Some p) (Some o) = is_market o.kind where
  is_market : OrderKind → Bool
  is_market Market = true
  is_market (Limit q) = false

abbrev pub is_not_changeable : State → ℕ → ℕ → Option ℕ → Bool
is_not_changeable s member reference limit = has_stop s member reference || is_limit_for_market limit (find (is_named member reference) s.orders)

abbrev pub is_given_in_range : Option ℕ → Bool
is_given_in_range None = true
is_given_in_range (Some p) = is_in_range p

-- the last price has reached this trigger
abbrev pub is_trigger_reached : State → Side → Option ℕ → Bool
is_trigger_reached s side None = false
is_trigger_reached s side (Some trigger) = reaches side (ref1 s) trigger

-- where each command of the phases is allowed
abbrev pub is_allowed : Phase → Command → Bool
is_allowed phase.PreTrading StartOpening = true
is_allowed phase.Continuous StartIntraday = true
is_allowed phase.Continuous StartClosing = true
is_allowed (phase.Call auction stage) Uncross = true
is_allowed phase.PostTrading EndDay = true
is_allowed _ _ = false

-- the journal takes commands of members up to its limit, and those of the phases up to 64 more
abbrev pub entries_more : Option ℕ → ℕ
entries_more None = PHASE_COMMANDS_MORE
entries_more (Some member) = 0

abbrev pub is_full : State → Option ℕ → Bool
is_full s member = nat_le (s.settings.limit + entries_more member) s.accepted

-- what is checked of each command by itself; a change looks its order up before its numbers
abbrev pub own_checks : State → Command → List Check
own_checks s (Enter member reference side kind quantity validity restriction condition) =
    record { fails = not (is_in_range quantity); refusal = BadQuantity }
    ∷ record { fails = not (has_prices_in_range kind); refusal = BadPrice }
    ∷ record { fails = is_over s.settings.today validity; refusal = BadValidity }
    ∷ record { fails = is_bad_combination condition kind restriction; refusal = BadCombination }
    ∷ record { fails = is_for_trading condition && not (is_continuous s.phase); refusal = WrongPhase }
    ∷ record { fails = has_order s member reference || has_stop s member reference; refusal = DuplicateReference }
    ∷ record { fails = is_trigger_reached s side (trigger_of kind); refusal = TriggerReached }
    ∷ record { fails = is_book_or_cancel condition && would_execute s.orders side (order_kind kind); refusal = WouldExecute }
    ∷ []
own_checks s (Change member reference quantity limit) =
    record { fails = is_unknown_order s member reference; refusal = UnknownOrder }
    ∷ record { fails = is_not_changeable s member reference limit; refusal = NotChangeable }
    ∷ record { fails = not (is_in_range quantity); refusal = BadQuantity }
    ∷ record { fails = not (is_given_in_range limit); refusal = BadPrice }
    ∷ []
own_checks s (Cancel member reference) = record { fails = is_unknown_order s member reference; refusal = UnknownOrder } ∷ []
own_checks s (CancelAll member) = []
own_checks s command = record { fails = not (is_allowed s.phase command); refusal = WrongPhase } ∷ []

-- the checks of a command in their order
abbrev pub checks : State → Command → List Check
checks s command =
    record { fails = is_unknown_member s (member_of command); refusal = UnknownMember }
    ∷ record { fails = is_ended s.phase; refusal = DayEnded }
    ∷ own_checks s command
    ++ record { fails = is_full s (member_of command); refusal = JournalFull }
    ∷ []

unfoldable pub refusal_of : State → Command → Option Refusal
refusal_of s command = first_failing (checks s command)

-- the place of a refusal among all
abbrev pub refusal_place : Refusal → ℕ
refusal_place UnknownSecurity = 0
refusal_place UnknownMember = 1
refusal_place DayEnded = 2
refusal_place BadQuantity = 3
refusal_place BadPrice = 4
refusal_place BadValidity = 5
refusal_place BadCombination = 6
refusal_place WrongPhase = 7
refusal_place DuplicateReference = 8
refusal_place UnknownOrder = 9
refusal_place NotChangeable = 10
refusal_place TriggerReached = 11
refusal_place JournalFull = 12
refusal_place (OutOfMemory _) = 13
refusal_place WouldExecute = 14

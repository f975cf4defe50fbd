-- What is seen of a security between commands, and in the middle of one.
use Rattle.std.specs.Prelude.{ℕ, ◌+◌, List, [], ◌∷◌, length}
use Rattle.xm_book.specs.Places.{place_of}
use Rattle.xm_book.specs.declared.places.Place.{Place}
use Rattle.xm_desk.specs.declared.unsettled.Ready.{Ready}
use Rattle.xm_desk.specs.declared.unsettled.Ready.TheVariants.{Nothing, OneTrade, ForOrder, ForStop, Used}
use Rattle.xm_events.specs.Seen.{Seen}
use Rattle.xm_rules.specs.Settling.{order_of_stop}
use Rattle.xm_rules.specs.Opening.{opening}
use Rattle.xm_rules.specs.State.{State}
use Rattle.xm_rules.specs.declared.orders.Stop.{Stop}
use Rattle.xm_rules.specs.declared.settings.DeskSettings.{DeskSettings}

-- settled up to the pending stops: a state, the stops that are pending, what is ready for the command, and what was seen of it so far
pub record Unsettled : Type 0 where
  pub state : State
  pub pending : List Stop
  pub ready : Ready
  pub seen : Seen

-- no stop is pending; what was seen is of the last command
pub record Settled : Type 0 where
  pub state : State
  pub ready : Ready
  pub seen : Seen

-- the place in the book of the order that a stop becomes
abbrev pub place_of_stop : Stop → Place
place_of_stop stop = place_of (order_of_stop stop)

-- the places in the book that are ready for an order
abbrev pub places_in : Ready → List Place
places_in (ForOrder place) = place ∷ []
places_in (ForStop stop) = place_of_stop stop ∷ []
places_in _ = []

-- how many orders or stops the command may have added
abbrev pub joined_in : Ready → ℕ
joined_in Used = 1
joined_in _ = 0

-- how many stops are to join the held ones
abbrev pub stops_in : Ready → ℕ
stops_in (ForStop stop) = 1
stops_in _ = 0

-- for how many trades there is room, beside one for each order and stop
abbrev pub trades_in : Ready → ℕ
trades_in OneTrade = 1
trades_in (ForOrder place) = 1
trades_in (ForStop stop) = 1
trades_in _ = 0

-- what was ready is used
abbrev pub once_used : Ready → Ready
once_used Nothing = Nothing
once_used _ = Used

-- how many trades may still be made: each but the last of a sweep or of a call uses up an order
abbrev pub possible_trades : Unsettled → ℕ
possible_trades u = length u.state.orders + length u.state.stops + length u.pending + trades_in u.ready

-- how many entries of orders and stops may have come: those that the day opens with, and one for each of so many commands
abbrev pub came : DeskSettings → ℕ → ℕ
came settings commands = length (opening settings).orders + length (opening settings).stops + commands

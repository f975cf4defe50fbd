-- What is kept ready for the orders and stops of a security, so that nothing that they do can fail.
use Rattle.std.specs.Prelude.{◌≡◌, ◌≤◌, ℕ, ◌+◌, List, ◌++◌, length, map, Some}
use Rattle.xm_book.specs.Places.{SamePlaces}
use Rattle.xm_book.specs.TimeList.{TimeList}
use Rattle.xm_book.specs.declared.places.Place.{Place}
use Rattle.xm_desk.specs.Settled.{joined_in, place_of_stop, places_in, stops_in, trades_in}
use Rattle.xm_desk.specs.declared.unsettled.Ready.{Ready}
use Rattle.xm_desk.specs.declared.unsettled.Ready.TheVariants.{ForStop}
use Rattle.xm_rules.specs.declared.orders.Stop.{Stop}
use Rattle.xm_stops.specs.HeldStops.{HeldStops, PendingStops}

abbrev pub places_of_stops : List Stop → List Place
places_of_stops stops = map place_of_stop stops

pub record IsFramed (came : ℕ) (book : TimeList) (held : HeldStops) (pending : PendingStops) (room : ℕ) (ready : Ready) : Type 0 where
  -- the reserved places are those of held and pending stops, and the one that is ready for an order
  pub reserved : SamePlaces book.reserved (places_of_stops held.stops ++ places_of_stops pending.stops ++ places_in ready)
  -- each add, and each order and stop, is of an entry that came, or of the one that the command adds
  pub adds : book.adds + length held.stops + length pending.stops ≤ came + joined_in ready
  pub orders : length book.orders + length held.stops + length pending.stops ≤ came + joined_in ready
  -- there is room for a trade of each order and each stop
  pub trades : length book.orders + length held.stops + length pending.stops + trades_in ready ≤ room
  -- all held stops can become pending
  pub waiting : length held.stops + stops_in ready ≤ pending.room
  -- a stop for which there is room can join the held ones
  pub stop : (held_for : Stop) → ready ≡ ForStop held_for → held.ready ≡ Some held_for

-- What is shown of a state beside its quote: its levels, and what is left of an order.
use Rattle.std.specs.Prelude.{ℕ, find, Option, Some, None}
use Rattle.xm_book.specs.Queues.{level_after, market_sum}
use Rattle.xm_rules.specs.Orders.{is_named, is_stop_named}
use Rattle.xm_rules.specs.State.{State}
use Rattle.xm_rules.specs.declared.orders.Order.{Order}
use Rattle.xm_rules.specs.declared.orders.Side.{Side}
use Rattle.xm_rules.specs.declared.orders.Stop.{Stop}

-- the best limit of the active orders of a side that is worse than this one, or the best of all where there is none, with the
-- units that rest at it
abbrev pub level_in : State → Side → Option ℕ → Option (ℕ × ℕ)
level_in s side after = level_after s.phase side after s.orders

-- the units that rest in the active market orders of a side
abbrev pub market_units : State → Side → ℕ
market_units s side = market_sum s.phase side s.orders

-- the units of an order, or else of a stop
abbrev pub units_of_either : Option Order → Option Stop → ℕ
units_of_either (Some o) stop = o.rest
units_of_either None (Some stop) = stop.quantity
units_of_either None None = 0

-- the units that are left of what has this name: an order's rest in the book, those of a held stop, and none where it is gone
abbrev pub units_left : State → ℕ → ℕ → ℕ
units_left s member reference = units_of_either (find (is_named member reference) s.orders) (find (is_stop_named member reference) s.stops)

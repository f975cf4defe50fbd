-- How far the curve of a side was walked: its units down to a limit, and the level that comes next.
use Rattle.std.specs.Prelude.{ℕ, Bool, true, if◌then◌else◌, List, Option, Some, None}
use Rattle.xm_auction.specs.declared.depth.Depth.{Depth}
use Rattle.xm_book.specs.Curves.{units_to}
use Rattle.xm_book.specs.Queues.{level_after}
use Rattle.xm_rules.specs.Sides.{reaches}
use Rattle.xm_rules.specs.declared.orders.Order.{Order}
use Rattle.xm_rules.specs.declared.orders.Side.{Side}
use Rattle.xm_rules.specs.declared.phases.Phase.{Phase}

abbrev pub depth_at : Phase → Side → Option ℕ → List Order → Depth
depth_at phase side limit orders =
    record { side = side; limit = limit; units = units_to phase side limit orders; next = level_after phase side limit orders }

-- a limit reaches a price; where there is no limit, each price is reached
abbrev pub reaches_price : Side → Option ℕ → ℕ → Bool
reaches_price side None x = true
reaches_price side (Some p) x = reaches side p x

-- the next level, where the limit of another depth reaches it
abbrev pub level_reached : Depth → Option (ℕ × ℕ) → Option (ℕ × ℕ)
level_reached from None = None
level_reached from (Some level) = if reaches_price from.side from.limit level.0 then Some level else None

-- Which orders are left at the end of a day.
use Rattle.std.specs.Prelude.{ℕ, Bool}
use Rattle.xm_slots.specs.declared.listing.Listed.{Listed}
use Rattle.xm_rules.specs.Commands.{outlasts}
use Rattle.xm_rules.specs.declared.orders.Order.{Order}

-- valid beyond this day
abbrev pub outlives : ℕ → Listed Order → Bool
outlives today x = outlasts today x.item.validity

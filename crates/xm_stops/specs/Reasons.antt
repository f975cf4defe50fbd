-- Why stops leave the held ones and stand behind the pending ones.
use Rattle.std.specs.Prelude.{Bool, not}
use Rattle.xm_rules.specs.Commands.{outlasts}
use Rattle.xm_rules.specs.Settling.{is_reached}
use Rattle.xm_rules.specs.declared.orders.Stop.{Stop}
use Rattle.xm_slots.specs.declared.listing.Listed.{Listed}
use Rattle.xm_stops.specs.declared.taking.Reason.{Reason}
use Rattle.xm_stops.specs.declared.taking.Reason.TheVariants.{Expired, Reached}

-- the last price has reached the stop, or the stop isn't valid beyond this day
abbrev pub leaves_for : Reason → Stop → Bool
leaves_for (Reached last) s = is_reached last s
leaves_for (Expired today) s = not (outlasts today s.validity)

abbrev pub is_leaving : Reason → Listed Stop → Bool
is_leaving reason x = leaves_for reason x.item

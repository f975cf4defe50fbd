use Rattle.std.proofs.Common.{◌-◌}
use Rattle.xm_price_maps.proofs.marks.+place_above.Given as goal
use Rattle.xm_price_maps.specs.declared.marks.TheConstants.{PLACES}

abbrev pub decreases-place_above : goal.decreases-place_above
decreases-place_above g l = PLACES - l.place

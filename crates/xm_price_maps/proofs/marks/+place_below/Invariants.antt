use Rattle.std.proofs.Common.{◌-◌}
use Rattle.xm_price_maps.proofs.marks.+place_below.Given as goal
use Rattle.xm_price_maps.specs.declared.marks.TheConstants.{PLACES}

abbrev pub decreases-place_below : goal.decreases-place_below
decreases-place_below g l = PLACES - l.place

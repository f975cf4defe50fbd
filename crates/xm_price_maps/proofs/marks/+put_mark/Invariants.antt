use Rattle.std.proofs.Common.{◌-◌}
use Rattle.xm_price_maps.proofs.marks.+put_mark.Given as goal
use Rattle.xm_price_maps.specs.declared.marks.TheConstants.{PLACES}

abbrev pub decreases-put_mark : goal.decreases-put_mark
decreases-put_mark g l = PLACES - l.place

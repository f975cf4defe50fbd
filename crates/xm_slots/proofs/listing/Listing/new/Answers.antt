use Rattle.xm_slots.proofs.Timeline.{listed-nothing}
use Rattle.xm_slots.proofs.listing.Listing.new.Goals as goal

pub returns : goal.returns
returns g c = listed-nothing

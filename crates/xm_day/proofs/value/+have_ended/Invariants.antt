use Rattle.std.proofs.Common.{length}
use Rattle.xm_day.proofs.value.+have_ended.Given as goal

abbrev pub decreases-have_ended : goal.decreases-have_ended
decreases-have_ended l = length l.desks.now

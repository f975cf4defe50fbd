use Rattle.std.proofs.Common.{length}
use Rattle.xm_explanations.proofs.mistaken.+count.Given as goal

abbrev pub decreases-count : goal.decreases-count
decreases-count l = length l.told.now

use Rattle.std.proofs.Common.{length}
use Rattle.xm_explanations.proofs.lines.+push_standing.Given as goal

abbrev pub decreases-push_standing : goal.decreases-push_standing
decreases-push_standing l = length l.standing.now

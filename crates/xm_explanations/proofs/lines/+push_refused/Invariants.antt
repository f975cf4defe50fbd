use Rattle.std.proofs.Common.{length}
use Rattle.xm_explanations.proofs.lines.+push_refused.Given as goal

abbrev pub decreases-push_refused : goal.decreases-push_refused
decreases-push_refused l = length l.notes.now

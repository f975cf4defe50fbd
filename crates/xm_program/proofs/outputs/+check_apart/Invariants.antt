use Rattle.std.proofs.Common.{length}
use Rattle.xm_program.proofs.outputs.+check_apart.Given as goal

abbrev pub decreases-check_apart : goal.decreases-check_apart
decreases-check_apart g l = length l.others.now

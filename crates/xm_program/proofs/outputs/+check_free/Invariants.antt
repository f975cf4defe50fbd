use Rattle.std.proofs.Common.{length}
use Rattle.xm_program.proofs.outputs.+check_free.Given as goal

abbrev pub decreases-check_free : goal.decreases-check_free
decreases-check_free g l = length l.paths.now

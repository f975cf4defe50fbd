use Rattle.std.proofs.Common.{length}
use Rattle.xm_program.proofs.requests.+are_apart.Given as goal

abbrev pub decreases-are_apart : goal.decreases-are_apart
decreases-are_apart l = length l.paths.now

use Rattle.std.proofs.Common.{◌≡◌, ◌++◌, length, map}
use Rattle.xm_reasons.specs.Candidates.{candidate_at, candidate_rows}
use Rattle.xm_reasons.specs.Walks.{IsWalk, candidates_below}
use Rattle.xm_rules.specs.Step.{replay}
use Rattle.xm_reasons.proofs.walks.candidate_rows.Given as goal

abbrev pub invariant-loop-row : goal.invariant-loop-row
invariant-loop-row g l =
    let s = replay l.desk in
    record {
      walk : IsWalk s l.walk;
      rows : candidate_rows s ≡ l.rows.items ++ map (candidate_at s) (candidates_below s l.walk.last);
    }

abbrev pub decreases-loop-row : goal.decreases-loop-row
decreases-loop-row g l = length (candidates_below (replay l.desk) l.walk.last)

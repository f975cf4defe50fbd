use Rattle.std.proofs.Common.{◌≡◌, take}
use Rattle.xm_reasons.specs.RowRules.{leader_of}
use Rattle.xm_reasons.proofs.rules.leader.Given as goal

abbrev pub invariant-loop-row : goal.invariant-loop-row
invariant-loop-row l = l.leader ≡ leader_of (take l.row-index l.rows)

use Rattle.std.proofs.Common.{◌≡◌, take}
use Rattle.xm_segment.proofs.Answering.{IsWorked}
use Rattle.xm_segment.proofs.segment.Segment.work.Given as goal

abbrev pub invariant-loop-row : goal.invariant-loop-row
invariant-loop-row g l = record {
  answered : l.answered ≡ l.row-index;
  worked : IsWorked g.S.Naming.settings l.initial.seat (take l.row-index l.rows) l.seat l.report;
}

use Rattle.std.proofs.Common.{◌+◌, ◌≤◌, length}
use Rattle.std.specs.Prelude.{vec_len}
use Rattle.std.specs.Vec.{vec_capacity}
use Rattle.xm_segment.specs.Boards.{AreLeft}
use Rattle.xm_segment.specs.Seats.{AreRows}
use Rattle.xm_segment.proofs.opened.ordered.Given as goal

abbrev pub invariant-loop-row : goal.invariant-loop-row
invariant-loop-row g l = record {
  rows : AreRows g.S.Naming.settings g.S.Naming.workers (length l.rows.items) l.rows.items;
  room : length l.fn.left.items ≤ vec_capacity l.rows;
  left : AreLeft g.S.Naming.settings (g.S.Naming.workers + length l.fn.left.items) (g.S.Naming.workers + length l.rows.items) l.left.items;
}

abbrev pub decreases-loop-row : goal.decreases-loop-row
decreases-loop-row g l = vec_len l.left

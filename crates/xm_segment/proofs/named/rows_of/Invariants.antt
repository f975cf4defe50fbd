use Rattle.std.proofs.Common.{◌-◌, ◌≤◌}
use Rattle.std.specs.Vec.{vec_capacity}
use Rattle.xm_segment.specs.Boards.{AreColumnsFrom, AreLeft}
use Rattle.xm_segment.proofs.named.rows_of.Given as goal

abbrev pub invariant-loop-taken : goal.invariant-loop-taken
invariant-loop-taken g l = record {
  rows : AreLeft g.S.Naming.settings l.count (l.count - l.taken) l.rows.items;
  room : l.count ≤ vec_capacity l.rows;
  columns : AreColumnsFrom 0 g.S.Naming.settings (l.count - l.taken) l.columns;
}

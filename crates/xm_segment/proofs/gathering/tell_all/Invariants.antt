use Rattle.std.proofs.Common.{◌≡◌, ◌++◌, drop, map, take}
use Rattle.xm_segment.proofs.Telling.{EachIn}
use Rattle.xm_segment.specs.Unlocked.{ArePartsIn, told_by}
use Rattle.xm_segment.specs.Watches.{RowView}
use Rattle.xm_segment.proofs.gathering.tell_all.Given as goal

abbrev pub invariant-loop-row : goal.invariant-loop-row
invariant-loop-row g l = record {
  lanes : l.lanes ≡ l.initial.lanes;
  parts : EachIn (λ (row : RowView). ArePartsIn l.initial.lanes row.watches) (take l.row-index l.initial.rows);
  told : l.rows ≡ map (told_by l.initial.lanes) (take l.row-index l.initial.rows) ++ drop l.row-index l.initial.rows;
}

use Rattle.std.proofs.Common.{◌≡◌, ◌++◌, take}
use Rattle.std.specs.List.{flat_map}
use Rattle.xm_reason_texts.specs.Rows.{range_row}
use Rattle.xm_reason_texts.proofs.rows.push_ranges.Given as goal

abbrev pub invariant-loop-asked : goal.invariant-loop-asked
invariant-loop-asked g l = l.text.items ≡ l.initial.text.items ++ flat_map (range_row l.start l.tick) (take l.asked-index l.ranges)

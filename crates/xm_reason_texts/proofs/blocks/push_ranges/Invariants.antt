use Rattle.std.proofs.Common.{◌≡◌, ◌++◌, take}
use Rattle.std.specs.List.{flat_map}
use Rattle.xm_reason_texts.specs.Blocks.{range_line}
use Rattle.xm_reason_texts.proofs.blocks.push_ranges.Given as goal

abbrev pub invariant-loop-asked : goal.invariant-loop-asked
invariant-loop-asked g l = l.text.items ≡ l.initial.text.items ++ flat_map (range_line l.tick) (take l.asked-index l.ranges)

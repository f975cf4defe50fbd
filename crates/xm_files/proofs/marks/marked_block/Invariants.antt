use Rattle.std.proofs.Common.{◌+◌, ◌-◌, length}
use Rattle.xm_files.specs.Plain.{IsMarked}
use Rattle.xm_files.proofs.marks.marked_block.Given as goal

abbrev pub invariant-loop-block : goal.invariant-loop-block
invariant-loop-block l = IsMarked l.text (l.behind + 64) l.block 0

abbrev pub decreases-loop-block : goal.decreases-loop-block
decreases-loop-block l = length l.text - l.block

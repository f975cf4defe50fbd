use Rattle.std.proofs.Common.{take}
use Rattle.xm_threads.specs.Lanes.{TookOwnRows}
use Rattle.xm_threads.proofs.lanes.take_part.Given as goal

abbrev pub invariant-loop-row : goal.invariant-loop-row
invariant-loop-row l = TookOwnRows l.names l.first l.fn.lanes (take l.row-index l.rows) l.lanes

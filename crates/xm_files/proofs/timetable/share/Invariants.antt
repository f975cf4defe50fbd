use Rattle.std.proofs.Common.{◌≡◌, take}
use Rattle.xm_files.specs.Timetable.{share_of}
use Rattle.xm_files.proofs.timetable.share.Given as goal

abbrev pub invariant-loop-row : goal.invariant-loop-row
invariant-loop-row g l = l.share.items ≡ share_of l.worker l.workers (take l.row-index l.rows)

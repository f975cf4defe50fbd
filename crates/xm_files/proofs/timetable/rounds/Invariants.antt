use Rattle.std.proofs.Common.{◌≡◌, ◌++◌, ◌-◌, drop, length}
use Rattle.xm_files.specs.Timetable.{rounds_from, rounds_of}
use Rattle.xm_files.proofs.timetable.rounds.Given as goal

abbrev pub invariant-rounds : goal.invariant-rounds
invariant-rounds g l = rounds_of l.rows ≡ l.rounds.items ++ rounds_from l.first (drop l.first l.rows)

abbrev pub decreases-rounds : goal.decreases-rounds
decreases-rounds g l = length l.rows - l.first

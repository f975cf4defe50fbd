use Rattle.std.proofs.Common.{◌≡◌, ◌+◌, drop}
use Rattle.std.specs.List.{position_or_len}
use Rattle.xm_files.specs.Timetable.{is_of_member}
use Rattle.xm_files.proofs.timetable.first_member.Given as goal

abbrev pub invariant-loop-place : goal.invariant-loop-place
invariant-loop-place l = l.place + position_or_len is_of_member (drop l.place l.rows) ≡ position_or_len is_of_member l.rows

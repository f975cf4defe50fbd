use Rattle.std.proofs.Common.{◌≡◌, ◌+◌, drop, not, take, true}
use Rattle.std.specs.List.{list_all, position_or_len}
use Rattle.xm_files.specs.Timetable.{is_of_member}
use Rattle.xm_files.proofs.timetable.first_phase.Given as goal

abbrev pub invariant-loop-place : goal.invariant-loop-place
invariant-loop-place l = record {
  place : l.place + position_or_len (λ row. not (is_of_member row)) (drop l.place l.rows) ≡ position_or_len (λ row. not (is_of_member row)) l.rows;
  members : list_all is_of_member (take l.place l.rows) ≡ true;
}

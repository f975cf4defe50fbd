use Rattle.std.proofs.Common.{◌≡◌, ◌≤◌, ◌+◌, ◌-◌, [], IfOk, length}
use Rattle.xm_files.specs.Batches.{rows_from, rows_so_far}
use Rattle.xm_files.specs.Orders.{max_lines}
use Rattle.xm_observers.specs.Observed.{ObservesOn, observed_so_far}
use Rattle.xm_observers.proofs.observing.observe_file.Given as goal

abbrev pub invariant-parts : goal.invariant-parts
invariant-parts g l = record {
  read : rows_from l.names l.config l.initial.file [] ≡ rows_from l.names l.config l.file (rows_so_far l.batch);
  taken : ObservesOn g.O.Observer.seen g.O.Observer.next l.initial.day l.config (rows_so_far l.batch) l.day;
  stands : l.file.line + length l.file.records ≡ l.initial.file.line + length l.initial.file.records;
  counted : observed_so_far l.day ≤ observed_so_far l.initial.day + length (rows_so_far l.batch);
  rows : IfOk l.day (λ d. g.O.Observer.rows (g.O.Observer.seen d.observer) ≤ observed_so_far l.day);
}

abbrev pub decreases-parts : goal.decreases-parts
decreases-parts g l = max_lines - l.file.line

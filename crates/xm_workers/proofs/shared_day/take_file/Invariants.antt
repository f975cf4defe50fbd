use Rattle.std.proofs.Common.{◌≡◌, ◌≤◌, ◌+◌, ◌-◌, [], length}
use Rattle.xm_workers.specs.Workers.{SharesOn, shared_so_far}
use Rattle.xm_files.specs.Batches.{rows_from, rows_so_far}
use Rattle.xm_files.specs.Orders.{max_lines}
use Rattle.xm_workers.proofs.shared_day.take_file.Given as goal

abbrev pub invariant-rounds : goal.invariant-rounds
invariant-rounds g l = record {
  read : rows_from l.names l.config l.initial.file [] ≡ rows_from l.names l.config l.file (rows_so_far l.batch);
  taken : SharesOn g.S.Naming.settings g.S.Naming.workers l.initial.day l.config (rows_so_far l.batch) l.day;
  stands : l.file.line + length l.file.records ≡ l.initial.file.line + length l.initial.file.records;
  counted : shared_so_far l.day ≤ shared_so_far l.initial.day + length (rows_so_far l.batch);
}

abbrev pub decreases-rounds : goal.decreases-rounds
decreases-rounds g l = max_lines - l.file.line

use Rattle.std.proofs.Common.{◌≡◌, ◌+◌, ◌<◌, ◌≤◌, length, true, Some}
use Rattle.xm_files.specs.Batches.{rows_from, rows_so_far}
use Rattle.xm_files.specs.Parts.{is_so_far}
use Rattle.xm_files.specs.Unread.{csv_left, with_ahead}
use Rattle.xm_files.proofs.orders.add_records.Given as goal

abbrev pub invariant-records : goal.invariant-records
invariant-records l = record {
  read : rows_from l.names l.config (csv_left (Some l.format) l.initial.csv) (rows_so_far l.initial.batch) ≡ rows_from l.names l.config (csv_left (Some l.format) l.csv) (rows_so_far l.batch);
  earlier : l.batch.earlier ≡ l.initial.batch.earlier;
  so_far : is_so_far l.part l.batch.rows ≡ true;
  counted : l.csv.line + length (with_ahead l.csv.ahead l.csv.behind) ≡ l.initial.csv.line + length (with_ahead l.initial.csv.ahead l.initial.csv.behind);
  onward : l.initial.csv.line ≤ l.csv.line;
  further : length l.initial.batch.rows ≡ 0 → 0 < length l.batch.rows → l.initial.csv.line < l.csv.line;
}

abbrev pub decreases-records : goal.decreases-records
decreases-records l = length (csv_left (Some l.format) l.csv).records

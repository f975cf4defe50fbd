use Rattle.std.proofs.Common.{◌≡◌, ◌+◌, ◌<◌, ◌≤◌, ◌∷◌, length, true, Some}
use Rattle.csv.specs.Reading.{default_config, records}
use Rattle.xm_files.proofs.Progress.{Lines}
use Rattle.xm_files.specs.Batches.{rows_from, rows_so_far, text_left}
use Rattle.xm_files.specs.Orders.{records_in}
use Rattle.xm_files.specs.Parts.{is_so_far}
use Rattle.xm_files.specs.Plain.{IsBehind, rest_of}
use Rattle.xm_files.proofs.orders.add_lines.Given as goal

abbrev pub invariant-lines : goal.invariant-lines
invariant-lines l = record {
  read : Lines l.names l.config l.fn.format (rows_from l.names l.config (text_left l.text (Some l.fn.format) l.first) (rows_so_far l.initial.batch)) (rest_of l.marks) l.line (rows_so_far l.batch);
  behind : IsBehind 10 l.marks;
  format : l.fields.format ≡ l.fn.format;
  earlier : l.batch.earlier ≡ l.initial.batch.earlier;
  so_far : is_so_far l.part l.batch.rows ≡ true;
  counted : l.line + length (records default_config (10 ∷ rest_of l.marks)) ≡ l.first + length (records_in l.text);
  onward : l.first ≤ l.line;
  further : 0 < length l.batch.rows → l.first < l.line;
}

abbrev pub decreases-lines : goal.decreases-lines
decreases-lines l = length (rest_of l.marks)

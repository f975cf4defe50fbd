use Rattle.std.proofs.Common.{◌≡◌, ◌+◌, ◌-◌, length, suc, false, [], Ok, if◌then◌else◌}
use Rattle.xm_threads.specs.Lanes.{TookMore}
use Rattle.xm_files.specs.Batches.{rows_from, rows_so_far}
use Rattle.xm_files.specs.Orders.{max_lines}
use Rattle.xm_files.specs.RecordTexts.{texts_in}
use Rattle.xm_threads.proofs.batches.take_file.Given as goal

abbrev pub invariant-batches : goal.invariant-batches
invariant-batches g l = record {
  read : rows_from l.names l.config l.fn.file [] ≡ rows_from l.names l.config l.file (rows_so_far l.batch);
  ended : l.more ≡ false → rows_from l.names l.config l.file (rows_so_far l.batch) ≡ Ok (rows_so_far l.batch);
  stands : l.file.line + length l.file.records ≡ l.fn.file.line + length l.fn.file.records;
  none : l.more ≡ false → l.file.records ≡ [];
  texts : texts_in l.texts ≡ texts_in l.fn.texts;
  took : TookMore l.names (texts_in l.fn.texts) l.batch.earlier l.fn.lanes l.fn.merged l.lanes l.merged;
}

abbrev pub decreases-batches : goal.decreases-batches
decreases-batches g l = if l.more then suc (max_lines - l.file.line) else 0

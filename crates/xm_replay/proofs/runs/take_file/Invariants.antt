use Rattle.std.proofs.Common.{◌≡◌, ◌≤◌, ◌+◌, ◌-◌, [], length}
use Rattle.xm_replay.specs.Taken.{TakesOn, taken_so_far}
use Rattle.xm_files.specs.Batches.{rows_from, rows_so_far}
use Rattle.xm_files.specs.Orders.{max_lines}
use Rattle.xm_files.specs.RecordTexts.{texts_in}
use Rattle.xm_replay.proofs.runs.take_file.Given as goal

abbrev pub invariant-parts : goal.invariant-parts
invariant-parts l = record {
  read : rows_from l.names l.config l.initial.file [] ≡ rows_from l.names l.config l.file (rows_so_far l.batch);
  taken : TakesOn l.names (texts_in l.initial.texts) l.initial.day l.config (rows_so_far l.batch) l.day;
  texts : texts_in l.texts ≡ texts_in l.initial.texts;
  stands : l.file.line + length l.file.records ≡ l.initial.file.line + length l.initial.file.records;
  counted : taken_so_far l.day ≤ taken_so_far l.initial.day + length (rows_so_far l.batch);
}

abbrev pub decreases-parts : goal.decreases-parts
decreases-parts l = max_lines - l.file.line

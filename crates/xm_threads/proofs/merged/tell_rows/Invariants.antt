use Rattle.std.proofs.Common.{◌≡◌, fold, take}
use Rattle.xm_threads.specs.Lanes.{told_row}
use Rattle.xm_files.specs.RecordTexts.{texts_in}
use Rattle.xm_threads.proofs.merged.tell_rows.Given as goal

abbrev pub invariant-loop-row : goal.invariant-loop-row
invariant-loop-row l = record {
  told : record { lanes = l.lanes; texts = l.told } ≡ fold (told_row l.names (texts_in l.initial.texts)) (record { lanes = l.initial.lanes; texts = l.initial.told }) (take l.row-index l.rows);
  texts : texts_in l.texts ≡ texts_in l.initial.texts;
}

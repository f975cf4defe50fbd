use Rattle.std.proofs.Common.{◌<◌, length, arith, ◌∙◌}
use Rattle.xm_threads.proofs.Merging.{told-one_more}
use Rattle.xm_files.specs.RecordTexts.{texts_in}
use Rattle.xm_threads.proofs.merged.tell_rows.Goals as goal

pub loop-row-preserved : goal.loop-row-preserved
loop-row-preserved c =
    let rows = c.args.rows.now in
    let i = c.loop-row.row-index in
    let within : i < length rows = omega arith in
    let old = c.loop-row.invariant in
    record {
      told =
          told-one_more c.args.names.now (texts_in c.args.texts.now) (texts_in c.loop-row.texts) rows i _ (record { lanes = c.args.lanes.now; texts = c.args.told.now }) (record { lanes = c.loop-row.lanes; texts = c.loop-row.told })
          (record { lanes = c.tell_row.new.lanes; texts = c.tell_row.new.told }) within old.texts old.told c.in_ok-tell_row.ensures.added;
      texts = c.tell_row.ensures.texts ∙ old.texts;
    }

use Rattle.std.proofs.Common.{◌∙◌, refl, sym, arith, rules}
use Rattle.std.proofs.lemmas.List.{length-set}
use Rattle.csv.specs.Records.{fields_of}
use Rattle.xm_files.proofs.Formats.{index-at, one-more-field, still-none}
use Rattle.xm_files.proofs.records.Fields.of.Goals as goal

pub loop-place-init : goal.loop-place-init
loop-place-init c = record { size = refl; others = search rules; read = refl }

pub loop-place-preserved : goal.loop-place-preserved
loop-place-preserved c =
    let format = c.args.format in
    let loop = c.loop-place in
    let fields = fields_of c.args.row.now in
    let whole = sym c.len.ensures ∙ c.if-len-columns.false in
    let at = index-at format c.columns-columns.result.now loop.place c.index.result _ c.columns-columns.ensures c.index.ensures.index (omega (arith, c.loop-place-test.true)) c.index.ensures.within in
    record {
      size = length-set loop.texts c.index.result c.text_at.result ∙ loop.invariant.size;
      others = still-none format loop.texts loop.place c.index.result c.text_at.result at loop.invariant.others;
      read = one-more-field format fields loop.texts loop.place c.index.result c.text_at.result loop.invariant.size at (omega (arith, whole, c.loop-place-test.true)) c.text_at.ensures loop.invariant.read;
    }

use Rattle.std.proofs.Common.{◌≡◌, ◌-◌, ◌∙◌, length, map, ap, arith}
use Rattle.std.proofs.lemmas.List.{length-set}
use Rattle.xm_files.proofs.Formats.{IsIndexAt, at-least-two, index-at, line-begun, line-ended, line-more, still-none, text_of}
use Rattle.xm_files.specs.Plain.{rest_of}
use Rattle.xm_files.specs.Rows.{HasNoOthers, RecordFields, columns_of}
use Rattle.xm_files.proofs.records.Fields.read_fields.Goals as goal

pub loop-place-init : goal.loop-place-init
loop-place-init c =
    let format = c.args.format in
    let texts = c.self.inside.texts in
    let field = c.in_ok-self-inside.field-0 in
    let same : c.self.inside.format ≡ format = ap (λ (fields : RecordFields). fields.format) c.self.view_is ∙ c.requires in
    let others : HasNoOthers (columns_of format) (map text_of texts) = rw same at c.self.invariant in
    let count = ap length c.columns-columns.ensures in
    let many = at-least-two format in
    let at = index-at format c.columns-columns.result.now 0 c.index.result _ c.columns-columns.ensures c.index.ensures.index (omega (arith, count, many)) c.index.ensures.within in
    record {
      text = c.in_ok-self-inside.ensures.text;
      format = same;
      size = length-set texts c.index.result field ∙ c.self.told;
      others = still-none format texts 0 c.index.result field at others;
      read = line-begun format texts c.index.result field (rest_of c.args.line.now) (rest_of c.field.new.self) c.self.told at c.in_ok-self-inside.ensures.field;
    }

pub loop-place-preserved : goal.loop-place-preserved
loop-place-preserved c =
    let format = c.args.format in
    let loop = c.loop-place in
    let texts = loop.self-inside.texts in
    let field = c.in_ok-self-inside-2.field-0 in
    let index = c.index-in-loop-place in
    let at = index-at format c.columns-columns.result.now loop.place index.result _ c.columns-columns.ensures index.ensures.index (omega (arith, c.loop-place-test.true)) index.ensures.within in
    record {
      text = c.in_ok-self-inside-2.ensures.text ∙ loop.invariant.text;
      format = loop.invariant.format;
      size = length-set texts index.result field ∙ loop.invariant.size;
      others = still-none format texts loop.place index.result field at loop.invariant.others;
      read = line-more format texts loop.place index.result field (rest_of c.args.line.now) (rest_of loop.line) (rest_of c.field-in-loop-place.new.self) loop.invariant.size at loop.invariant.read c.in_ok-self-inside-2.ensures.field;
    }

pub invariant_of-self-2 : goal.invariant_of-self-2
invariant_of-self-2 c =
    let format = c.args.format in
    let loop = c.loop-place in
    let last = length c.columns-columns.result.now - 1 in
    let count = ap length c.columns-columns.ensures in
    let many = at-least-two format in
    let at : IsIndexAt format last c.index-2.result =
    index-at format c.columns-columns.result.now last c.index-2.result _ c.columns-columns.ensures c.index-2.ensures.index (omega (arith, count, many)) c.index-2.ensures.within in
    rw loop.invariant.format (still-none format loop.self-inside.texts last c.index-2.result c.in_ok-self-inside-3.field-0 at loop.invariant.others)

pub returns-clause-line : goal.returns-clause-line
returns-clause-line c =
    let format = c.args.format in
    let loop = c.loop-place in
    let last = length c.columns-columns.result.now - 1 in
    let count = ap length c.columns-columns.ensures in
    let many = at-least-two format in
    let at : IsIndexAt format last c.index-2.result =
    index-at format c.columns-columns.result.now last c.index-2.result _ c.columns-columns.ensures c.index-2.ensures.index (omega (arith, count, many)) c.index-2.ensures.within in
    let place : loop.place ≡ last = omega (arith, count, many, c.loop-place-test.false, loop.auto.place-end) in
    rw loop.invariant.format
    (line-ended format loop.self-inside.texts last c.index-2.result c.in_ok-self-inside-3.field-0 (rest_of c.args.line.now) (rest_of loop.line) (rest_of c.field-2.new.self) loop.invariant.size at (omega (arith, count, many)) (rw place at loop.invariant.read)
    c.in_ok-self-inside-3.ensures.field)

use Rattle.std.proofs.Common.{ℕ, ◌+◌, ◌-◌, List, length, length-drop, ap, subst, ◌∙◌, arith}
use Rattle.xm_files.proofs.InParts.{as-last, part-begins, part-ends, part-more}
use Rattle.xm_files.proofs.LineRecords.{line-shorter}
use Rattle.xm_files.specs.InParts.{LinesGive, last_bytes}
use Rattle.xm_files.specs.Plain.{left_of, rest_of}
use Rattle.xm_files.specs.Rows.{columns_of}
use Rattle.xm_files.specs.declared.order_format.OrderFormat.{OrderFormat}
use Rattle.xm_files.proofs.file_parts.add_lines_to.Goals as goal

pub loop-batch-init : goal.loop-batch-init
loop-batch-init c = record {
  read = part-begins c.args.names.now c.args.config.now c.args.format c.args.text.now (rest_of c.in_ok-marks.marks) c.args.first c.args.batch.now.rows c.in_ok-marks.ensures.fed (omega (arith, c.if-first-text.false)) c.requires;
  text = c.in_ok-marks.ensures.text;
  behind = c.in_ok-marks.ensures.behind;
  format = c.empty-fields.ensures;
}

pub returns-then-left-end-clause-gives : goal.returns-then-left-end-clause-gives
returns-then-left-end-clause-gives c =
    let read = c.in_ok-read_line in
    let kept = c.loop-batch.invariant in
    let fields = c.read_line.new.self in
    let more = rest_of c.read_line.new.line in
    let same = read.ensures.format ∙ kept.format in
    let count = read.ensures.count ∙ ap (λ (f : OrderFormat). length (columns_of f)) kept.format in
    let lines = part-more c.args.names.now c.args.config.now c.args.format fields.format c.args.text.now (rest_of c.loop-batch.marks) more c.args.first c.loop-batch.line c.loop-batch.batch c.add_record.new.batch fields.in_order kept.read read.ensures.line same count
    c.in-Ok.ensures.earlier c.in-Ok.ensures.ok in
    let gives = part-ends c.args.names.now c.args.config.now c.args.format c.args.text.now (left_of c.read_line.new.line) more c.args.first (c.loop-batch.line + 1) c.add_record.new.batch.rows lines read.ensures.behind in
    let text = read.ensures.text ∙ kept.text in
    let size = ap length c.left-left.ensures in
    let some = ap length read.ensures.behind in
    let last = as-last c.read_line.new.line.text (c.read_line.new.line.at - 1) _ size (omega (arith, size, some)) ∙ ap (last_bytes _) text in
    subst (λ (left : List ℕ). LinesGive c.args.names.now c.args.config.now c.args.format c.args.text.now c.args.first left (c.loop-batch.line + 1) c.add_record.new.batch.rows) last gives

pub returns-then-left-end-clause-within : goal.returns-then-left-end-clause-within
returns-then-left-end-clause-within c =
    let text = ap length (c.in_ok-read_line.ensures.text ∙ c.loop-batch.invariant.text) in
    let size = ap length c.left-left.ensures in
    let left = length-drop (c.read_line.new.line.at - 1) c.read_line.new.line.text in
    omega (arith, text, size ∙ left)

pub loop-batch-smaller : goal.loop-batch-smaller
loop-batch-smaller c =
    let read = c.in_ok-read_line in
    line-shorter (rest_of c.loop-batch.marks) (rest_of c.read_line.new.line) c.read_line.new.self.in_order read.ensures.line

pub loop-batch-preserved : goal.loop-batch-preserved
loop-batch-preserved c =
    let read = c.in_ok-read_line in
    let kept = c.loop-batch.invariant in
    let fields = c.read_line.new.self in
    let same = read.ensures.format ∙ kept.format in
    let count = read.ensures.count ∙ ap (λ (f : OrderFormat). length (columns_of f)) kept.format in
    record {
      read = part-more c.args.names.now c.args.config.now c.args.format fields.format c.args.text.now (rest_of c.loop-batch.marks) (rest_of c.read_line.new.line) c.args.first c.loop-batch.line c.loop-batch.batch c.add_record.new.batch fields.in_order kept.read read.ensures.line same
          count c.in-Ok.ensures.earlier c.in-Ok.ensures.ok;
      text = read.ensures.text ∙ kept.text;
      behind = read.ensures.behind;
      format = same;
    }

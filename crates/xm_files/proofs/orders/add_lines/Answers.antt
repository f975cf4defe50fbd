use Rattle.std.proofs.Common.{◌≡◌, Ok, Some, ◌+◌, length, true, false, ◌∷◌, refl, sym, ap, arith, ◌∙◌}
use Rattle.csv.specs.Reading.{default_config, records}
use Rattle.xm_files.proofs.LineRecords.{line-shorter}
use Rattle.xm_files.proofs.PartsRead.{ended-part, no-rows, round-before, so-far-rows}
use Rattle.xm_files.proofs.Progress.{fed-count, line-count, line-next, lines-begin, lines-end, lines-fault, lines-more}
use Rattle.xm_files.specs.Batches.{rows_so_far, text_left}
use Rattle.xm_files.specs.Orders.{with_rows}
use Rattle.xm_files.specs.Parts.{ends_before}
use Rattle.xm_files.specs.Plain.{rest_of}
use Rattle.xm_files.specs.Rows.{columns_of, command_in, field, rows_of_record, texts_of}
use Rattle.xm_files.specs.declared.columns.Column.TheVariants as column
use Rattle.xm_files.specs.declared.order_format.OrderFormat.{OrderFormat}
use Rattle.xm_files.proofs.orders.add_lines.Goals as goal

pub lines-init : goal.lines-init
lines-init c =
    let none = ap length c.requires.empty in
    record {
      read = lines-begin c.args.names.now c.args.config.now c.args.format c.args.text.now (rest_of c.in-Some.marks) c.args.first (rows_so_far c.args.batch.now) c.in-Some.ensures.fed c.requires.short;
      behind = c.in-Some.ensures.behind;
      format = c.empty-fields.ensures;
      earlier = refl;
      counted = (let count = fed-count c.args.text.now (rest_of c.in-Some.marks) c.in-Some.ensures.fed in omega (arith, count));
      so_far = no-rows c.args.part c.args.batch.now.rows c.requires.empty;
      onward = omega arith;
      further = λ some. absurd (omega (arith, some, none));
    }

pub returns-in_default-read_line-clause-ok : goal.returns-in_default-read_line-clause-ok
returns-in_default-read_line-clause-ok c =
    lines-end c.args.names.now c.args.config.now c.args.format _ c.left-left.result.now (rest_of c.lines.marks) c.lines.line (rows_so_far c.lines.batch) c.lines.invariant.read (c.left-left.ensures ∙ c.lines.invariant.behind)

pub returns-then-ends_before-clause-ok : goal.returns-then-ends_before-clause-ok
returns-then-ends_before-clause-ok c =
    lines-end c.args.names.now c.args.config.now c.args.format _ c.left-left.result.now (rest_of c.lines.marks) c.lines.line (rows_so_far c.lines.batch) c.lines.invariant.read (c.left-left.ensures ∙ c.lines.invariant.behind)

pub returns-then-ends_before-clause-full : goal.returns-then-ends_before-clause-full
returns-then-ends_before-clause-full c = λ _.
    let ended = ended-part c.args.part c.lines.batch.rows (field column.Command (texts_of c.read_line.new.self)) (sym c.ends_before.ensures ∙ c.if-ends_before.true) in
    (ended.1, c.lines.invariant.further ended.0)

pub returns-then-ends_before-clause-round : goal.returns-then-ends_before-clause-round
unfolding texts_of
returns-then-ends_before-clause-round c = λ round ended.
    let read = c.in-Some-read_line in
    let fields = c.read_line.new.self.in_order in
    let same = read.ensures.format ∙ c.lines.invariant.format in
    let count = read.ensures.count ∙ ap (λ (f : OrderFormat). length (columns_of f)) c.lines.invariant.format in
    let text = ap (λ (f : OrderFormat). command_in f fields) same in
    let ends : ends_before c.args.part c.lines.batch.rows (command_in c.args.format fields) ≡ true = ap (ends_before c.args.part c.lines.batch.rows) (sym text) ∙ sym c.ends_before.ensures ∙ c.if-ends_before.true in
    let more = rest_of c.read_line.new.line in
    let next = line-next c.args.names.now c.args.config.now c.args.format c.left-left.result.now (rest_of c.lines.marks) more c.lines.line (rows_so_far c.lines.batch) fields (c.left-left.ensures ∙ c.lines.invariant.behind) read.ensures.line in
    round-before c.args.names.now c.args.config.now c.args.format c.args.part (text_left c.left-left.result.now (Some c.args.format) c.lines.line) c.lines.batch fields (records default_config (10 ∷ more)) count next ends c.lines.invariant.so_far round

pub returns-in-Err-clause-err : goal.returns-in-Err-clause-err
returns-in-Err-clause-err c =
    let read = c.in-Some-read_line in
    let same = read.ensures.format ∙ c.lines.invariant.format in
    let count = read.ensures.count ∙ ap (λ (f : OrderFormat). length (columns_of f)) c.lines.invariant.format in
    let fault = c.in-Err.fault in
    λ h. lines-fault c.args.names.now c.args.config.now c.args.format c.read_line.new.self.format _ (rest_of c.lines.marks) (rest_of c.read_line.new.line) c.lines.line (rows_so_far c.lines.batch) c.read_line.new.self.in_order fault c.lines.invariant.read read.ensures.line same count (c.in-Err.ensures.err h)

pub lines-smaller : goal.lines-smaller
lines-smaller c =
    let read = c.in-Some-read_line in
    line-shorter (rest_of c.lines.marks) (rest_of c.read_line.new.line) c.read_line.new.self.in_order read.ensures.line

pub lines-preserved : goal.lines-preserved
unfolding texts_of
lines-preserved c =
    let read = c.in-Some-read_line in
    let fields = c.read_line.new.self.in_order in
    let same = read.ensures.format ∙ c.lines.invariant.format in
    let count = read.ensures.count ∙ ap (λ (f : OrderFormat). length (columns_of f)) c.lines.invariant.format in
    let onward = c.lines.invariant.onward in
    let text = ap (λ (f : OrderFormat). command_in f fields) same in
    let goes : ends_before c.args.part c.lines.batch.rows (command_in c.args.format fields) ≡ false = ap (ends_before c.args.part c.lines.batch.rows) (sym text) ∙ sym c.ends_before.ensures ∙ c.if-ends_before.false in
    let good : with_rows c.lines.line (rows_so_far c.lines.batch) (rows_of_record c.args.format c.args.names.now c.args.config.now c.lines.line fields) ≡ Ok (rows_so_far c.add_record.new.batch) =
    ap (λ (f : OrderFormat). with_rows c.lines.line (rows_so_far c.lines.batch) (rows_of_record f c.args.names.now c.args.config.now c.lines.line fields)) (sym same) ∙ c.in-Ok.ensures.ok in
    record {
      read = lines-more c.args.names.now c.args.config.now c.args.format c.read_line.new.self.format _ (rest_of c.lines.marks) (rest_of c.read_line.new.line) c.lines.line (rows_so_far c.lines.batch) (rows_so_far c.add_record.new.batch) fields c.lines.invariant.read read.ensures.line same count
          c.in-Ok.ensures.ok;
      behind = read.ensures.behind;
      format = same;
      earlier = c.in-Ok.ensures.earlier ∙ c.lines.invariant.earlier;
      so_far = so-far-rows c.args.part c.args.names.now c.args.config.now c.args.format c.lines.line fields c.lines.batch c.add_record.new.batch c.in-Ok.ensures.earlier good goes c.lines.invariant.so_far;
      counted = (
          let one = line-count (rest_of c.lines.marks) (rest_of c.read_line.new.line) fields read.ensures.line in
          let counted = c.lines.invariant.counted in
          omega (arith, one, counted));
      onward = omega (arith, onward);
      further = λ some. omega (arith, onward);
    }

pub returns-in_default-read_line-clause-counted : goal.returns-in_default-read_line-clause-counted
returns-in_default-read_line-clause-counted c =
    let count = fed-count c.left-left.result.now (rest_of c.lines.marks) (c.left-left.ensures ∙ c.lines.invariant.behind) in
    let counted = c.lines.invariant.counted in
    omega (arith, count, counted)

pub returns-then-ends_before-clause-counted : goal.returns-then-ends_before-clause-counted
returns-then-ends_before-clause-counted c =
    let count = fed-count c.left-left.result.now (rest_of c.lines.marks) (c.left-left.ensures ∙ c.lines.invariant.behind) in
    let counted = c.lines.invariant.counted in
    omega (arith, count, counted)

pub returns-then-is_whole_part-clause-counted : goal.returns-then-is_whole_part-clause-counted
returns-then-is_whole_part-clause-counted c =
    let read = c.in-Some-read_line in
    let one = line-count (rest_of c.lines.marks) (rest_of c.read_line.new.line) c.read_line.new.self.in_order read.ensures.line in
    let count = fed-count c.left.result.now (rest_of c.read_line.new.line) (c.left.ensures ∙ read.ensures.behind) in
    let counted = c.lines.invariant.counted in
    omega (arith, one, count, counted)

pub returns-then-is_whole_part-clause-ok : goal.returns-then-is_whole_part-clause-ok
returns-then-is_whole_part-clause-ok c =
    let read = c.in-Some-read_line in
    let same = read.ensures.format ∙ c.lines.invariant.format in
    let count = read.ensures.count ∙ ap (λ (f : OrderFormat). length (columns_of f)) c.lines.invariant.format in
    let more = lines-more c.args.names.now c.args.config.now c.args.format c.read_line.new.self.format _ (rest_of c.lines.marks) (rest_of c.read_line.new.line) c.lines.line (rows_so_far c.lines.batch) (rows_so_far c.add_record.new.batch) c.read_line.new.self.in_order c.lines.invariant.read read.ensures.line same count
    c.in-Ok.ensures.ok in
    lines-end c.args.names.now c.args.config.now c.args.format _ c.left.result.now (rest_of c.read_line.new.line) (c.lines.line + 1) (rows_so_far c.add_record.new.batch) more (c.left.ensures ∙ read.ensures.behind)

pub returns-then-is_whole_part-clause-lines : goal.returns-then-is_whole_part-clause-lines
returns-then-is_whole_part-clause-lines c =
    let read = c.in-Some-read_line in
    let more = line-shorter (rest_of c.lines.marks) (rest_of c.read_line.new.line) c.read_line.new.self.in_order read.ensures.line in
    let left = ap length (c.left.ensures ∙ read.ensures.behind) in
    let lines = c.lines.invariant.read.lines in
    let onward = c.lines.invariant.onward in
    (omega (arith, onward), omega (arith, more, left, lines))

use Rattle.std.proofs.Common.{◌≡◌, ◌∙◌, length, Ok, Err, ap, sym, arith}
use Rattle.xm_files.proofs.LineRecords.{line-shorter}
use Rattle.xm_files.proofs.Listing.{listing-begins, listing-ends, listing-fault, listing-more}
use Rattle.xm_files.specs.Carry.{listed_in, with_listed}
use Rattle.xm_files.specs.Plain.{rest_of}
use Rattle.xm_files.specs.Rows.{by_column, carry_columns, columns_of, texts_of}
use Rattle.xm_files.specs.declared.order_format.OrderFormat.{OrderFormat}
use Rattle.xm_files.proofs.carry.list_lines.Goals as goal

pub lines-init : goal.lines-init
lines-init c = record {
  read = listing-begins c.args.names.now c.args.securities.now c.args.text.now (rest_of c.in-Some.marks) 2 c.args.lists.now c.in-Some.ensures.fed c.requires.short;
  behind = c.in-Some.ensures.behind;
  format = c.empty-fields.ensures;
  onward = omega arith;
}

pub returns-in_default-read_line-clause-ok : goal.returns-in_default-read_line-clause-ok
returns-in_default-read_line-clause-ok c =
    listing-ends c.args.names.now c.args.securities.now _ c.left-left.result.now (rest_of c.lines.marks) c.lines.line c.lines.lists c.lines.invariant.read (c.left-left.ensures ∙ c.lines.invariant.behind)

pub returns-in-Err-clause-err : goal.returns-in-Err-clause-err
unfolding texts_of
returns-in-Err-clause-err c = λ h.
    let read = c.in-Some-read_line in
    let fields = c.read_line.new.self.in_order in
    let same = read.ensures.format ∙ c.lines.invariant.format in
    let count : length fields ≡ 10 = read.ensures.count ∙ ap (λ (f : OrderFormat). length (columns_of f)) c.lines.invariant.format in
    let bad : with_listed c.lines.line c.lines.lists (listed_in c.args.names.now c.args.securities.now (by_column carry_columns fields)) ≡ Err c.in-Err.fault =
    ap (λ (f : OrderFormat). with_listed c.lines.line c.lines.lists (listed_in c.args.names.now c.args.securities.now (by_column (columns_of f) fields))) (sym same) ∙ c.in-Err.ensures.err h in
    listing-fault c.args.names.now c.args.securities.now _ (rest_of c.lines.marks) (rest_of c.read_line.new.line) c.lines.line c.lines.lists fields c.in-Err.fault c.lines.invariant.read read.ensures.line count bad

pub lines-smaller : goal.lines-smaller
lines-smaller c = line-shorter (rest_of c.lines.marks) (rest_of c.read_line.new.line) c.read_line.new.self.in_order c.in-Some-read_line.ensures.line

pub lines-preserved : goal.lines-preserved
unfolding texts_of
lines-preserved c =
    let read = c.in-Some-read_line in
    let fields = c.read_line.new.self.in_order in
    let same = read.ensures.format ∙ c.lines.invariant.format in
    let count : length fields ≡ 10 = read.ensures.count ∙ ap (λ (f : OrderFormat). length (columns_of f)) c.lines.invariant.format in
    let onward = c.lines.invariant.onward in
    let good : with_listed c.lines.line c.lines.lists (listed_in c.args.names.now c.args.securities.now (by_column carry_columns fields)) ≡ Ok c.list_record.new.lists =
    ap (λ (f : OrderFormat). with_listed c.lines.line c.lines.lists (listed_in c.args.names.now c.args.securities.now (by_column (columns_of f) fields))) (sym same) ∙ c.in-Ok.ensures.ok in
    record {
      read = listing-more c.args.names.now c.args.securities.now _ (rest_of c.lines.marks) (rest_of c.read_line.new.line) c.lines.line c.lines.lists c.list_record.new.lists fields c.lines.invariant.read read.ensures.line count good;
      behind = read.ensures.behind;
      format = same;
      onward = omega (arith, onward);
    }

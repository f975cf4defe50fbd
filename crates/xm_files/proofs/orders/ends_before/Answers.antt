use Rattle.std.proofs.Common.{◌≡◌, length, ap, sym, ◌∙◌}
use Rattle.csv.specs.Records.{fields_of}
use Rattle.xm_files.proofs.CsvFields.{given-back}
use Rattle.xm_files.proofs.CsvParts.{given-test}
use Rattle.xm_files.specs.Parts.{ends_before}
use Rattle.xm_files.specs.Rows.{columns_of, command_in, field, texts_of}
use Rattle.xm_files.specs.declared.columns.Column.TheVariants as column
use Rattle.xm_files.specs.declared.order_format.OrderFormat.{OrderFormat}
use Rattle.xm_files.proofs.orders.ends_before.Goals as goal

pub returns-in-Some : goal.returns-in-Some
unfolding texts_of
returns-in-Some c =
    let row = fields_of c.args.row.now in
    let fields = c.in-Some.fields in
    let read = given-back (length (columns_of c.args.format)) row fields.in_order c.in-Some.ensures.fields in
    let same : field column.Command (texts_of fields) ≡ command_in c.args.format row =
    ap (λ (f : OrderFormat). command_in f fields.in_order) c.in-Some.ensures.format ∙ ap (command_in c.args.format) read.1 in
    c.ends_before.ensures
    ∙ ap (ends_before c.args.part c.args.batch.now.rows) same
    ∙ sym (given-test (length (columns_of c.args.format)) row (ends_before c.args.part c.args.batch.now.rows (command_in c.args.format row)) read.0)

use Rattle.std.proofs.Common.{◌≡◌, ◌≢◌, ◌∙◌, List, ℕ, length, Result, Ok, Err, OnOk, IfErr, ap, sym, subst}
use Rattle.csv.specs.Records.{fields_of}
use Rattle.xm_files.proofs.CsvFields.{given-back}
use Rattle.xm_files.proofs.Progress.{row-record}
use Rattle.xm_files.specs.Batches.{rows_so_far}
use Rattle.xm_files.specs.Orders.{with_rows}
use Rattle.xm_files.specs.Rows.{columns_of, rows_of_record}
use Rattle.xm_files.specs.declared.file_faults.FileCause.TheVariants.{OutOfMemory}
use Rattle.xm_files.specs.declared.file_faults.FileFault.{FileFault}
use Rattle.xm_files.specs.declared.order_format.OrderFormat.{OrderFormat}
use Rattle.xm_config.specs.declared.rows.Row.{Row}
use Rattle.xm_files.proofs.orders.add_fields.Goals as goal

pub returns-in-Some-clause-ok : goal.returns-in-Some-clause-ok
returns-in-Some-clause-ok c =
    let read = given-back (length (columns_of c.args.format)) (fields_of c.args.row.now) c.in-Some.fields.in_order c.in-Some.ensures.fields in
    let same = row-record c.args.names.now c.args.config.now c.args.format c.args.line (rows_so_far c.args.batch.now) (fields_of c.args.row.now) read.0
    ∙ ap (λ (f : List (List ℕ)). with_rows c.args.line (rows_so_far c.args.batch.now) (rows_of_record c.args.format c.args.names.now c.args.config.now c.args.line f)) (sym read.1)
    ∙ ap (λ (f : OrderFormat). with_rows c.args.line (rows_so_far c.args.batch.now) (rows_of_record f c.args.names.now c.args.config.now c.args.line c.in-Some.fields.in_order)) (sym c.in-Some.ensures.format) in
    let Gives : Result (List Row) FileFault → Type 0 = λ r. OnOk c.add_record.result (r ≡ Ok (rows_so_far c.add_record.new.batch)) in
    subst Gives (sym same) c.add_record.ensures.ok

pub returns-in-Some-clause-err : goal.returns-in-Some-clause-err
returns-in-Some-clause-err c =
    let read = given-back (length (columns_of c.args.format)) (fields_of c.args.row.now) c.in-Some.fields.in_order c.in-Some.ensures.fields in
    let same = row-record c.args.names.now c.args.config.now c.args.format c.args.line (rows_so_far c.args.batch.now) (fields_of c.args.row.now) read.0
    ∙ ap (λ (f : List (List ℕ)). with_rows c.args.line (rows_so_far c.args.batch.now) (rows_of_record c.args.format c.args.names.now c.args.config.now c.args.line f)) (sym read.1)
    ∙ ap (λ (f : OrderFormat). with_rows c.args.line (rows_so_far c.args.batch.now) (rows_of_record f c.args.names.now c.args.config.now c.args.line c.in-Some.fields.in_order)) (sym c.in-Some.ensures.format) in
    let Gives : Result (List Row) FileFault → Type 0 = λ r. IfErr c.add_record.result (λ fault. fault.cause ≢ OutOfMemory tt → r ≡ Err fault) in
    subst Gives (sym same) c.add_record.ensures.err

use Rattle.std.proofs.Common.{◌≡◌, ◌≢◌, ◌∙◌, List, ℕ, Result, Ok, Err, OnOk, IfErr, ap, sym, subst}
use Rattle.csv.specs.Records.{fields_of}
use Rattle.xm_files.proofs.CsvFields.{given-back}
use Rattle.xm_files.proofs.Listing.{listed-record}
use Rattle.xm_files.specs.Carry.{listed_in, with_listed}
use Rattle.xm_files.specs.Rows.{by_column, carry_columns, columns_of, texts_of}
use Rattle.xm_files.specs.declared.file_faults.FileCause.TheVariants.{OutOfMemory}
use Rattle.xm_files.specs.declared.file_faults.FileFault.{FileFault}
use Rattle.xm_files.specs.declared.order_format.OrderFormat.{OrderFormat}
use Rattle.xm_rules.specs.Entries.{Entries}
use Rattle.xm_files.proofs.carry.list_fields.Goals as goal

pub returns-in-Some-clause-ok : goal.returns-in-Some-clause-ok
unfolding texts_of
returns-in-Some-clause-ok c =
    let read = given-back 10 (fields_of c.args.row.now) c.in-Some.fields.in_order c.in-Some.ensures.fields in
    let says : List (List ℕ) → Result (List Entries) FileFault = λ fields. with_listed c.args.line c.args.lists.now (listed_in c.args.names.now c.args.securities.now fields) in
    let same = listed-record c.args.names.now c.args.securities.now c.args.line c.args.lists.now (fields_of c.args.row.now) read.0
    ∙ ap (λ (fields : List (List ℕ)). says (by_column carry_columns fields)) (sym read.1)
    ∙ ap (λ (format : OrderFormat). says (by_column (columns_of format) c.in-Some.fields.in_order)) (sym c.in-Some.ensures.format) in
    let Gives : Result (List Entries) FileFault → Type 0 = λ r. OnOk c.list_record.result (r ≡ Ok c.list_record.new.lists) in
    subst Gives (sym same) c.list_record.ensures.ok

pub returns-in-Some-clause-err : goal.returns-in-Some-clause-err
unfolding texts_of
returns-in-Some-clause-err c =
    let read = given-back 10 (fields_of c.args.row.now) c.in-Some.fields.in_order c.in-Some.ensures.fields in
    let says : List (List ℕ) → Result (List Entries) FileFault = λ fields. with_listed c.args.line c.args.lists.now (listed_in c.args.names.now c.args.securities.now fields) in
    let same = listed-record c.args.names.now c.args.securities.now c.args.line c.args.lists.now (fields_of c.args.row.now) read.0
    ∙ ap (λ (fields : List (List ℕ)). says (by_column carry_columns fields)) (sym read.1)
    ∙ ap (λ (format : OrderFormat). says (by_column (columns_of format) c.in-Some.fields.in_order)) (sym c.in-Some.ensures.format) in
    let Gives : Result (List Entries) FileFault → Type 0 = λ r. IfErr c.list_record.result (λ fault. fault.cause ≢ OutOfMemory tt → r ≡ Err fault) in
    subst Gives (sym same) c.list_record.ensures.err

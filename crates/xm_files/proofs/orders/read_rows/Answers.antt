use Rattle.std.proofs.Common.{◌≡◌, ◌∙◌, List, [], ◌++◌, ℕ, length, None, Ok, Err, IfSome, ap, sym}
use Rattle.std.specs.Bool.{OnFalse}
use Rattle.xm_files.proofs.PassedErrors.{if_passed}
use Rattle.xm_files.proofs.WholeFiles.{no-more, not-outside, orders-read}
use Rattle.xm_files.specs.Batches.{RowsLeft, rows_from, rows_so_far, text_left}
use Rattle.xm_files.specs.FileFaults.{is_from_outside}
use Rattle.xm_files.specs.Orders.{orders_of}
use Rattle.xm_files.specs.declared.file_faults.FileFault.{FileFault}
use Rattle.xm_config.specs.declared.rows.Row.{Row}
use Rattle.xm_files.proofs.orders.read_rows.Goals as goal

pub returns-in_err-read-clause-fault : goal.returns-in_err-read-clause-fault
returns-in_err-read-clause-fault g c =
    let names = c.args.names.now in
    let config = c.args.config.now in
    let fault = c.in_err-read.field-0.0 in
    let bytes = c.in_ok-bytes.bytes.items in
    let text : c.of.result ≡ text_left bytes None 1 = c.of.ensures ∙ ap (λ (text : List ℕ). text_left text None 1) c.as_slice.ensures.value in
    let none = ap rows_so_far c.new-batch.ensures in
    let Gives : FileFault → Type 0 = λ f. IfSome (g.R.Read.remaining c.args.reader.now) (λ bytes. orders_of names config bytes ≡ Err f) in
    if_passed (λ f. OnFalse (is_from_outside f.cause) (Gives f)) c.from_residual-in_err-read.result fault c.from_residual-in_err-read.ensures.1
    (not-outside (Gives fault) fault.cause
    (λ other.
    orders-read names config (g.R.Read.remaining c.args.reader.now) bytes (Err fault) c.in_ok-bytes.ensures.bytes c.in_ok-bytes.ensures.short
    (sym (ap (λ (left : RowsLeft). rows_from names config left []) text) ∙ sym (ap (rows_from names config c.of.result) none) ∙ c.in_err-read.ensures.err other)))

pub returns-clause-read : goal.returns-clause-read
returns-clause-read g c =
    let names = c.args.names.now in
    let config = c.args.config.now in
    let bytes = c.in_ok-bytes.bytes.items in
    let text : c.of.result ≡ text_left bytes None 1 = c.of.ensures ∙ ap (λ (text : List ℕ). text_left text None 1) c.as_slice.ensures.value in
    let none = ap rows_so_far c.new-batch.ensures in
    let read = c.in_ok-read.ensures in
    let batch = c.read.new.batch in
    let rows : rows_so_far batch ≡ c.into_rows.result.items = ap (λ (earlier : List Row). earlier ++ batch.rows) (read.earlier ∙ none) ∙ sym c.into_rows.ensures.rows in
    let ends = no-more c.in_ok-read.field-0 (length batch.rows) (λ more. read.full (ap Ok more)) (rw (read.earlier, none) at read.few) in
    orders-read names config (g.R.Read.remaining c.args.reader.now) bytes (Ok c.into_rows.result.items) c.in_ok-bytes.ensures.bytes c.in_ok-bytes.ensures.short
    (sym (ap (λ (left : RowsLeft). rows_from names config left []) text) ∙ sym (ap (rows_from names config c.of.result) none) ∙ read.read ∙ read.ended (ap Ok ends) ∙ ap Ok rows)

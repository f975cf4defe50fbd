use Rattle.std.proofs.Common.{◌≡◌, ◌+◌, ◌≤◌, ◌++◌, ◌∙◌, length, Ok, sym, ap, arith}
use Rattle.xm_files.proofs.Batches.{joined}
use Rattle.xm_files.proofs.Progress.{rows-fit}
use Rattle.xm_files.specs.Batches.{rows_so_far}
use Rattle.xm_files.specs.Orders.{with_entry_rows}
use Rattle.xm_files.specs.Rows.{rows_of_entry}
use Rattle.xm_files.proofs.orders.add_parsed.Goals as goal

pub returns-clause-ok : goal.returns-clause-ok
returns-clause-ok c =
    let rows = rows_so_far c.args.batch.now in
    let entry = c.in-Some.entry in
    let more = rows_of_entry c.args.line c.args.securities entry in
    let count : c.count_of.result ≡ length more = c.count_of.ensures c.args.line in
    let fits : length rows + length more ≤ 1000000 = omega (arith, count, c.total.ensures.total, c.total.ensures.few, c.if-total-count_of.false) in
    let old = c.args.batch.now in
    let added : rows_so_far c.add_entry.new.batch ≡ rows ++ more =
    ap rows_so_far c.in_ok-add_entry.ensures ∙ joined old more in
    ap (with_entry_rows c.args.line c.args.securities rows) c.in-Some.is
    ∙ rows-fit c.args.line rows more fits
    ∙ ap Ok (sym added)

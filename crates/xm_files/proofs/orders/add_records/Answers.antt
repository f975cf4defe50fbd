use Rattle.std.proofs.Common.{◌≡◌, ℕ, List, length, Some, Ok, refl, ap, sym, arith, ◌∙◌}
use Rattle.csv.specs.Records.{fields_of}
use Rattle.xm_files.proofs.CsvParts.{csv-ended, csv-fault, csv-looked-count, csv-more, csv-next, csv-taken-count, same-fields, tested, waiting}
use Rattle.xm_files.proofs.PartsRead.{round-before, round-ended, so-far-record}
use Rattle.xm_files.specs.Batches.{rows_so_far}
use Rattle.xm_files.specs.Orders.{with_record}
use Rattle.xm_files.specs.Parts.{ends_before}
use Rattle.xm_files.specs.Rows.{columns_of, command_in}
use Rattle.xm_files.specs.Unread.{CsvLeft, csv_left}
use Rattle.xm_files.proofs.orders.add_records.Goals as goal

pub returns-in-Ok-false-clause-ended : goal.returns-in-Ok-false-clause-ended
returns-in-Ok-false-clause-ended c = λ _.
    let arm = c.in-Ok-false in
    csv-ended c.args.names.now c.args.config.now c.args.format c.look_ahead.new.self (rows_so_far c.records.batch) (arm.ensures.ended (ap Ok arm.field-0-test))

pub returns-in-Ok-false-clause-counted : goal.returns-in-Ok-false-clause-counted
returns-in-Ok-false-clause-counted c = csv-looked-count c.records.csv c.look_ahead.new.self _ c.in-Ok-false.ensures.same c.look_ahead.ensures.line c.records.invariant.counted

pub returns-then-ends_before-clause-counted : goal.returns-then-ends_before-clause-counted
returns-then-ends_before-clause-counted c = csv-looked-count c.records.csv c.look_ahead.new.self _ c.in-Ok-true.ensures.same c.look_ahead.ensures.line c.records.invariant.counted

pub returns-then-is_whole_part-clause-counted : goal.returns-then-is_whole_part-clause-counted
returns-then-is_whole_part-clause-counted c =
    let csv = c.look_ahead.new.self in
    let arm = c.in-Ok-true in
    let ahead = waiting csv.ahead (arm.ensures.waits (ap Ok arm.field-0-test)) in
    csv-taken-count csv c.take.new.self ahead.0 _ ahead.1 c.take.ensures.taken (csv-looked-count c.records.csv csv _ arm.ensures.same c.look_ahead.ensures.line c.records.invariant.counted)

pub returns-in-Ok-false-clause-round : goal.returns-in-Ok-false-clause-round
returns-in-Ok-false-clause-round c = λ round.
    let csv = c.look_ahead.new.self in
    let arm = c.in-Ok-false in
    let none = csv-ended c.args.names.now c.args.config.now c.args.format csv (rows_so_far c.records.batch) (arm.ensures.ended (ap Ok arm.field-0-test)) in
    round-ended c.args.names.now c.args.config.now c.args.part (csv_left (Some c.args.format) csv) c.records.batch none c.records.invariant.so_far round

pub returns-then-ends_before-clause-round : goal.returns-then-ends_before-clause-round
returns-then-ends_before-clause-round c = λ round.
    let csv = c.look_ahead.new.self in
    let arm = c.in-Ok-true in
    let ahead = waiting csv.ahead (arm.ensures.waits (ap Ok arm.field-0-test)) in
    let row = fields_of c.row.result.now in
    let fields = same-fields csv.ahead ahead.0 row ahead.1 c.row.ensures in
    let test = tested (length (columns_of c.args.format)) row _ (ends_before c.args.part c.records.batch.rows (command_in c.args.format row)) refl (sym c.ends_before.ensures ∙ c.if-ends_before.true) in
    let same = csv-next c.args.names.now c.args.config.now c.args.format _ csv csv (rows_so_far c.records.batch) row refl refl refl (ahead.1 ∙ ap (λ (f : List (List ℕ)). Some f) (sym fields)) in
    round-before c.args.names.now c.args.config.now c.args.format c.args.part (csv_left (Some c.args.format) csv) c.records.batch row csv.behind test.0 same test.1 c.records.invariant.so_far round

pub returns-in-Err-add_fields-clause-err : goal.returns-in-Err-add_fields-clause-err
returns-in-Err-add_fields-clause-err c = λ h.
    let csv = c.look_ahead.new.self in
    let arm = c.in-Ok-true in
    let ahead = waiting csv.ahead (arm.ensures.waits (ap Ok arm.field-0-test)) in
    let row = fields_of c.row-in-records.result.now in
    let fields = same-fields csv.ahead ahead.0 row ahead.1 c.row-in-records.ensures in
    let read = csv-next c.args.names.now c.args.config.now c.args.format _ c.records.csv csv (rows_so_far c.records.batch) ahead.0 c.records.invariant.read arm.ensures.same c.look_ahead.ensures.line ahead.1 in
    csv-fault c.args.names.now c.args.config.now c.args.format _ csv.line (rows_so_far c.records.batch) ahead.0 csv.behind c.in-Err-add_fields.fault read (rw (c.line.ensures, fields) at (c.in-Err-add_fields.ensures.err h))

pub returns-then-is_whole_part-clause-read : goal.returns-then-is_whole_part-clause-read
returns-then-is_whole_part-clause-read c =
    let csv = c.look_ahead.new.self in
    let arm = c.in-Ok-true in
    let ahead = waiting csv.ahead (arm.ensures.waits (ap Ok arm.field-0-test)) in
    let row = fields_of c.row-in-records.result.now in
    let fields = same-fields csv.ahead ahead.0 row ahead.1 c.row-in-records.ensures in
    let read = csv-next c.args.names.now c.args.config.now c.args.format _ c.records.csv csv (rows_so_far c.records.batch) ahead.0 c.records.invariant.read arm.ensures.same c.look_ahead.ensures.line ahead.1 in
    csv-more c.args.names.now c.args.config.now c.args.format _ csv c.take.new.self (rows_so_far c.records.batch) (rows_so_far c.add_fields.new.batch) ahead.0 read (rw (c.line.ensures, fields) at c.in-Ok.ensures.ok) c.take.ensures.taken

pub records-preserved : goal.records-preserved
records-preserved c =
    let csv = c.look_ahead.new.self in
    let arm = c.in-Ok-true in
    let ahead = waiting csv.ahead (arm.ensures.waits (ap Ok arm.field-0-test)) in
    let row = fields_of c.row-in-records.result.now in
    let fields = same-fields csv.ahead ahead.0 row ahead.1 c.row-in-records.ensures in
    let first = same-fields csv.ahead ahead.0 (fields_of c.row.result.now) ahead.1 c.row.ensures in
    let read = csv-next c.args.names.now c.args.config.now c.args.format _ c.records.csv csv (rows_so_far c.records.batch) ahead.0 c.records.invariant.read arm.ensures.same c.look_ahead.ensures.line ahead.1 in
    let good : with_record c.args.names.now c.args.config.now c.args.format csv.line (rows_so_far c.records.batch) ahead.0 ≡ Ok (rows_so_far c.add_fields.new.batch) = rw (c.line.ensures, fields) at c.in-Ok.ensures.ok in
    let onward = c.records.invariant.onward in
    let line = c.look_ahead.ensures.line in
    let taken = ap (λ (t : CsvLeft). t.line) c.take.ensures.taken in
    record {
      read = csv-more c.args.names.now c.args.config.now c.args.format _ csv c.take.new.self (rows_so_far c.records.batch) (rows_so_far c.add_fields.new.batch) ahead.0 read good c.take.ensures.taken;
      earlier = c.in-Ok.ensures.earlier ∙ c.records.invariant.earlier;
      so_far = so-far-record c.args.part c.args.names.now c.args.config.now c.args.format csv.line ahead.0 c.records.batch c.add_fields.new.batch c.in-Ok.ensures.earlier good (rw first at (sym c.ends_before.ensures ∙ c.if-ends_before.false)) c.records.invariant.so_far;
      counted = csv-taken-count csv c.take.new.self ahead.0 _ ahead.1 c.take.ensures.taken (csv-looked-count c.records.csv csv _ arm.ensures.same line c.records.invariant.counted);
      onward = omega (arith, onward, line, taken);
      further = λ none some. omega (arith, onward, line, taken);
    }

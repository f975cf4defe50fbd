use Rattle.std.proofs.Common.{◌≡◌, Ok, ap}
use Rattle.csv.specs.Records.{fields_of}
use Rattle.xm_files.proofs.CsvParts.{same-fields, waiting}
use Rattle.xm_files.proofs.Listing.{listed-fault, listed-more, listed-next}
use Rattle.xm_files.specs.Carry.{with_carry_record}
use Rattle.xm_files.proofs.carry.list_records.Goals as goal

pub returns-in-Err-list_fields-clause-err : goal.returns-in-Err-list_fields-clause-err
returns-in-Err-list_fields-clause-err c = λ h.
    let csv = c.look_ahead.new.self in
    let arm = c.in-Ok-true in
    let ahead = waiting csv.ahead (arm.ensures.waits (ap Ok arm.field-0-test)) in
    let fields = same-fields csv.ahead ahead.0 (fields_of c.row.result.now) ahead.1 c.row.ensures in
    let read = listed-next c.args.names.now c.args.securities.now _ c.records.csv csv c.records.lists ahead.0 c.records.invariant arm.ensures.same c.look_ahead.ensures.line ahead.1 in
    listed-fault c.args.names.now c.args.securities.now _ csv.line c.records.lists ahead.0 csv.behind c.in-Err-list_fields.fault read (rw (c.line.ensures, fields) at (c.in-Err-list_fields.ensures.err h))

pub records-preserved : goal.records-preserved
records-preserved c =
    let csv = c.look_ahead.new.self in
    let arm = c.in-Ok-true in
    let ahead = waiting csv.ahead (arm.ensures.waits (ap Ok arm.field-0-test)) in
    let fields = same-fields csv.ahead ahead.0 (fields_of c.row.result.now) ahead.1 c.row.ensures in
    let read = listed-next c.args.names.now c.args.securities.now _ c.records.csv csv c.records.lists ahead.0 c.records.invariant arm.ensures.same c.look_ahead.ensures.line ahead.1 in
    let good : with_carry_record c.args.names.now c.args.securities.now csv.line c.records.lists ahead.0 ≡ Ok c.list_fields.new.lists = rw (c.line.ensures, fields) at c.in-Ok.ensures.ok in
    listed-more c.args.names.now c.args.securities.now _ csv c.take.new.self c.records.lists c.list_fields.new.lists ahead.0 read good c.take.ensures.taken

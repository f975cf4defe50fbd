use Rattle.std.proofs.Common.{length, ap, sym, arith}
use Rattle.csv.specs.Records.{fields_of}
use Rattle.xm_files.proofs.Unread.{none-left, reads-first}
use Rattle.xm_files.specs.Unread.{IsBetween}
use Rattle.xm_files.proofs.csv_records.CsvRecords.look_ahead.Goals as goal

pub invariant_of-self : goal.invariant_of-self
invariant_of-self c =
    let between : IsBetween c.self.inside.reader = rw c.in-Taken.is at c.self.invariant.reads_on in
    let arm = c.in-Ok-true in
    let next = reads-first c.self.inside.reader c.read_byte_record.new.self (fields_of c.read_byte_record.new.row) between (rw arm.field-0-test at (arm.ensures.reads between.trim between.ready)) (arm.ensures.ready between.trim) in
    let short = rw c.in-Taken.is at c.self.invariant.short in
    let count = ap length next.taken in
    record {
      reads_on = next.between;
      begun = c.self.invariant.begun;
      short = omega (arith, short, count);
    }

pub returns-in-Ok-true-clause-same : goal.returns-in-Ok-true-clause-same
returns-in-Ok-true-clause-same c =
    let between : IsBetween c.self.inside.reader = rw c.in-Taken.is at c.self.invariant.reads_on in
    let arm = c.in-Ok-true in
    let next = reads-first c.self.inside.reader c.read_byte_record.new.self (fields_of c.read_byte_record.new.row) between (rw arm.field-0-test at (arm.ensures.reads between.trim between.ready)) (arm.ensures.ready between.trim) in
    rw (← c.self.view_is, c.in-Taken.is) (sym next.taken)

pub returns-in-Ok-false-clause-same : goal.returns-in-Ok-false-clause-same
returns-in-Ok-false-clause-same c =
    let between : IsBetween c.self.inside.reader = rw c.in-Taken.is at c.self.invariant.reads_on in
    let arm = c.in-Ok-false in
    let none = none-left c.self.inside.reader c.read_byte_record.new.self (fields_of c.read_byte_record.new.row) between (rw arm.field-0-test at (arm.ensures.reads between.trim between.ready)) in
    rw (← c.self.view_is, c.in-Taken.is) (sym none)

use Rattle.std.proofs.Common.{Ok, ap, arith}
use Rattle.xm_files.proofs.Advances.{looked, none-taken, taken}
use Rattle.xm_files.specs.Unread.{CsvLeft}
use Rattle.xm_files.proofs.csv_records.CsvRecords.advance.Goals as goal

pub records-init : goal.records-init
records-init c = record { advanced = none-taken c.args.self.now; within = c.requires }

pub returns-in-Ok-false-clause-left : goal.returns-in-Ok-false-clause-left
returns-in-Ok-false-clause-left c =
    (looked c.args.self.now c.records.self c.look_ahead.new.self c.records.invariant.advanced c.in-Ok-false.ensures.same c.look_ahead.ensures.line).left

pub returns-in-Ok-false-clause-onward : goal.returns-in-Ok-false-clause-onward
returns-in-Ok-false-clause-onward c =
    let line = c.look_ahead.ensures.line in
    let onward = c.records.invariant.advanced.onward in
    let within = c.records.invariant.within in
    (omega (arith, line, onward), omega (arith, line, within))

pub returns-then-self-line-clause-left : goal.returns-then-self-line-clause-left
returns-then-self-line-clause-left c =
    (looked c.args.self.now c.records.self c.look_ahead.new.self c.records.invariant.advanced c.in-Ok-true.ensures.same c.look_ahead.ensures.line).left

pub records-smaller : goal.records-smaller
records-smaller c =
    let line = c.look_ahead.ensures.line in
    let within = c.records.invariant.within in
    let one = ap (λ (left : CsvLeft). left.line) c.take.ensures.taken in
    let same = ap (λ (left : CsvLeft). left.line) c.self.view_is in
    let other = c.if-self-line.false in
    omega (arith, line, within, one, same, other)

pub records-preserved : goal.records-preserved
records-preserved c =
    let line = c.look_ahead.ensures.line in
    let within = c.records.invariant.within in
    let one = ap (λ (left : CsvLeft). left.line) c.take.ensures.taken in
    let same = ap (λ (left : CsvLeft). left.line) c.self.view_is in
    let other = c.if-self-line.false in
    let seen = looked c.args.self.now c.records.self c.look_ahead.new.self c.records.invariant.advanced c.in-Ok-true.ensures.same line in
    record {
      advanced = taken c.args.self.now c.look_ahead.new.self c.take.new.self seen (c.in-Ok-true.ensures.waits (ap Ok c.in-Ok-true.field-0-test)) c.take.ensures.taken;
      within = omega (arith, line, within, one, same, other);
    }

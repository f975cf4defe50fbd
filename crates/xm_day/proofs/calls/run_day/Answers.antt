use Rattle.std.proofs.Common.{map, sym, subst}
use Rattle.xm_day.proofs.Days.{day-ends, orders-end, texted, unopened}
use Rattle.xm_day.specs.Answers.{DayEnds, InFileOrder}
use Rattle.xm_day.specs.Days.{nothing_asked}
use Rattle.xm_day.specs.declared.value.HandsOn.TheVariants.{Nothing}
use Rattle.xm_files.proofs.PassedErrors.{is_passed}
use Rattle.xm_workers.specs.Workers.{IsShared}
use Rattle.xm_day.proofs.calls.run_day.Goals as goal

pub returns-in_err-config-clause-alone : goal.returns-in_err-config-clause-alone
returns-in_err-config-clause-alone g c = λ one.
    let met = c.in_err-config in
    let segment = g.S.Read.remaining c.args.segment.now in
    let orders = map g.R.Read.remaining c.args.orders.now in
    let out = g.W.Write.contents c.args.out.now in
    subst (DayEnds InFileOrder segment orders out out) (sym (is_passed c.from_residual.result met.field-0.0 c.from_residual.ensures.1)) (unopened InFileOrder segment orders out out met.field-0.0 met.ensures.read)

pub returns-in_err-config-clause-shared : goal.returns-in_err-config-clause-shared
returns-in_err-config-clause-shared g c = λ more.
    let met = c.in_err-config in
    let days = IsShared c.args.workers in
    let segment = g.S.Read.remaining c.args.segment.now in
    let orders = map g.R.Read.remaining c.args.orders.now in
    let out = g.W.Write.contents c.args.out.now in
    subst (DayEnds days segment orders out out) (sym (is_passed c.from_residual.result met.field-0.0 c.from_residual.ensures.1)) (unopened days segment orders out out met.field-0.0 met.ensures.read)

pub returns-clause-alone : goal.returns-clause-alone
returns-clause-alone g c = λ one.
    let orders = map g.R.Read.remaining c.args.orders.now in
    let read = c.in_ok-config in
    let made = c.day_texts-made.result in
    let day = texted InFileOrder nothing_asked Nothing read.config read.names orders c.take_shared-taken.result made (c.take_shared-taken.ensures.alone one) c.day_texts-made.ensures in
    day-ends InFileOrder (g.S.Read.remaining c.args.segment.now) orders _ _ read.config read.names c.write_statement.result read.ensures.read
    (orders-end InFileOrder nothing_asked Nothing read.config read.names orders _ _ made c.write_statement.result day c.write_statement.ensures.written)

pub returns-clause-shared : goal.returns-clause-shared
returns-clause-shared g c = λ more.
    let days = IsShared c.args.workers in
    let orders = map g.R.Read.remaining c.args.orders.now in
    let read = c.in_ok-config in
    let made = c.day_texts-made.result in
    let day = texted days nothing_asked Nothing read.config read.names orders c.take_shared-taken.result made (c.take_shared-taken.ensures.shared more) c.day_texts-made.ensures in
    day-ends days (g.S.Read.remaining c.args.segment.now) orders _ _ read.config read.names c.write_statement.result read.ensures.read
    (orders-end days nothing_asked Nothing read.config read.names orders _ _ made c.write_statement.result day c.write_statement.ensures.written)

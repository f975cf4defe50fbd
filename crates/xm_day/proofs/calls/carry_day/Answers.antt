use Rattle.std.proofs.Common.{map, sym, subst}
use Rattle.xm_day.proofs.Days.{both-end, carried-day-ends, carry-unopened, texted}
use Rattle.xm_day.specs.Answers.{InFileOrder}
use Rattle.xm_day.specs.CarriedDays.{CarriedDayEnds, Outputs}
use Rattle.xm_day.specs.Days.{nothing_asked}
use Rattle.xm_day.specs.declared.value.HandsOn.TheVariants.{WhatIsLeft}
use Rattle.xm_files.proofs.PassedErrors.{is_passed}
use Rattle.xm_workers.specs.Workers.{IsShared}
use Rattle.xm_day.proofs.calls.carry_day.Goals as goal

pub returns-in_err-config-clause-alone : goal.returns-in_err-config-clause-alone
returns-in_err-config-clause-alone g c = λ one.
    let met = c.in_err-config in
    let segment = g.S.Read.remaining c.args.segment.now in
    let carry = g.C.Read.remaining c.args.carry.now in
    let orders = map g.R.Read.remaining c.args.orders.now in
    let old = g.W.Write.contents c.args.out.now in
    let kept = g.K.Write.contents c.args.keep.now in
    let out : Outputs = record { old = old; new = old; kept_old = kept; kept_new = kept } in
    subst (CarriedDayEnds InFileOrder segment carry orders out) (sym (is_passed c.from_residual.result met.field-0.0 c.from_residual.ensures.1)) (carry-unopened InFileOrder segment carry orders out met.field-0.0 met.ensures.read)

pub returns-in_err-config-clause-shared : goal.returns-in_err-config-clause-shared
returns-in_err-config-clause-shared g c = λ more.
    let met = c.in_err-config in
    let days = IsShared c.args.workers in
    let segment = g.S.Read.remaining c.args.segment.now in
    let carry = g.C.Read.remaining c.args.carry.now in
    let orders = map g.R.Read.remaining c.args.orders.now in
    let old = g.W.Write.contents c.args.out.now in
    let kept = g.K.Write.contents c.args.keep.now in
    let out : Outputs = record { old = old; new = old; kept_old = kept; kept_new = kept } in
    subst (CarriedDayEnds days segment carry orders out) (sym (is_passed c.from_residual.result met.field-0.0 c.from_residual.ensures.1)) (carry-unopened days segment carry orders out met.field-0.0 met.ensures.read)

pub returns-clause-alone : goal.returns-clause-alone
returns-clause-alone g c = λ one.
    let orders = map g.R.Read.remaining c.args.orders.now in
    let read = c.in_ok-config in
    let made = c.day_texts-made.result in
    let day = texted InFileOrder nothing_asked WhatIsLeft read.config read.names orders c.take_shared-taken.result made (c.take_shared-taken.ensures.alone one) c.day_texts-made.ensures in
    carried-day-ends InFileOrder (g.S.Read.remaining c.args.segment.now) (g.C.Read.remaining c.args.carry.now) orders _ read.config read.names c.write_both.result read.ensures.read
    (both-end InFileOrder nothing_asked read.config read.names orders _ made c.write_both.result day c.write_both.ensures.written)

pub returns-clause-shared : goal.returns-clause-shared
returns-clause-shared g c = λ more.
    let days = IsShared c.args.workers in
    let orders = map g.R.Read.remaining c.args.orders.now in
    let read = c.in_ok-config in
    let made = c.day_texts-made.result in
    let day = texted days nothing_asked WhatIsLeft read.config read.names orders c.take_shared-taken.result made (c.take_shared-taken.ensures.shared more) c.day_texts-made.ensures in
    carried-day-ends days (g.S.Read.remaining c.args.segment.now) (g.C.Read.remaining c.args.carry.now) orders _ read.config read.names c.write_both.result read.ensures.read
    (both-end days nothing_asked read.config read.names orders _ made c.write_both.result day c.write_both.ensures.written)

use Rattle.std.proofs.Common.{map, sym, subst}
use Rattle.xm_day.proofs.Days.{both-end, carried-day-ends, carry-unopened, texted}
use Rattle.xm_day.specs.Answers.{InFileOrder}
use Rattle.xm_day.specs.CarriedDays.{CarriedDayEnds, Outputs}
use Rattle.xm_day.specs.declared.value.HandsOn.TheVariants.{WhatIsLeft}
use Rattle.xm_files.proofs.PassedErrors.{is_passed}
use Rattle.xm_day.proofs.calls.carry_alone.Goals as goal

pub returns-in_err-config-clause-ends : goal.returns-in_err-config-clause-ends
returns-in_err-config-clause-ends g c =
    let met = c.in_err-config in
    let segment = g.S.Read.remaining c.args.segment.now in
    let carry = g.C.Read.remaining c.args.carry.now in
    let orders = map g.R.Read.remaining c.args.orders.now in
    let old = g.W.Write.contents c.args.out.now in
    let kept = g.K.Write.contents c.args.keep.now in
    let out : Outputs = record { old = old; new = old; kept_old = kept; kept_new = kept } in
    subst (CarriedDayEnds InFileOrder segment carry orders out) (sym (is_passed c.from_residual.result met.field-0.0 c.from_residual.ensures.1)) (carry-unopened InFileOrder segment carry orders out met.field-0.0 met.ensures.read)

pub returns-clause-ends : goal.returns-clause-ends
returns-clause-ends g c =
    let orders = map g.R.Read.remaining c.args.orders.now in
    let read = c.in_ok-config in
    let asked = c.nothing.result in
    let made = c.day_texts-made.result in
    let day = texted InFileOrder asked WhatIsLeft read.config read.names orders c.take_in_order-taken.result made c.take_in_order-taken.ensures.taken c.day_texts-made.ensures in
    carried-day-ends InFileOrder (g.S.Read.remaining c.args.segment.now) (g.C.Read.remaining c.args.carry.now) orders _ read.config read.names c.write_both.result read.ensures.read
    (both-end InFileOrder asked read.config read.names orders _ made c.write_both.result day c.write_both.ensures.written)

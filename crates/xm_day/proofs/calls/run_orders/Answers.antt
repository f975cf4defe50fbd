use Rattle.std.proofs.Common.{map}
use Rattle.xm_day.proofs.Days.{orders-end, texted}
use Rattle.xm_day.specs.Answers.{InFileOrder}
use Rattle.xm_day.specs.declared.value.HandsOn.TheVariants.{Nothing}
use Rattle.xm_day.proofs.calls.run_orders.Goals as goal

pub returns-clause-ends : goal.returns-clause-ends
returns-clause-ends g c =
    let orders = map g.R.Read.remaining c.args.orders.now in
    let asked = c.nothing.result in
    let made = c.day_texts-made.result in
    orders-end InFileOrder asked Nothing c.args.config.now c.args.names.now orders _ _ made c.write_statement.result
    (texted InFileOrder asked Nothing c.args.config.now c.args.names.now orders c.take_in_order-taken.result made c.take_in_order-taken.ensures.taken c.day_texts-made.ensures) c.write_statement.ensures.written

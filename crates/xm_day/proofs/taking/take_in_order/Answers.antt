use Rattle.std.proofs.Common.{map}
use Rattle.xm_day.proofs.Days.{in-order, stated}
use Rattle.xm_day.proofs.Endings.{taken-anyhow}
use Rattle.xm_day.specs.Answers.{InFileOrder}
use Rattle.xm_day.proofs.taking.take_in_order.Goals as goal

pub returns-clause-taken : goal.returns-clause-taken
returns-clause-taken g c =
    let orders = map g.R.Read.remaining c.args.orders.now in
    let taken = c.take_orders-taken.result in
    stated InFileOrder c.args.asked c.args.config.now c.args.names.now orders taken c.stated.result
    (in-order c.args.asked c.args.config.now c.args.names.now orders taken (taken-anyhow c.args.asked c.args.config.now c.args.names.now orders taken c.take_orders-taken.ensures)) c.stated.ensures.stated

use Rattle.std.proofs.Common.{map}
use Rattle.xm_day.proofs.Days.{shared, stated}
use Rattle.xm_day.specs.Days.{nothing_asked}
use Rattle.xm_workers.specs.Workers.{IsShared}
use Rattle.xm_day.proofs.taking.take_shared.Goals as goal

pub returns-clause-shared : goal.returns-clause-shared
returns-clause-shared g c = λ more.
    let orders = map g.R.Read.remaining c.args.orders.now in
    let taken = c.share_orders-taken.result in
    stated (IsShared c.args.workers) nothing_asked c.args.config.now c.args.names.now orders taken c.stated.result (shared c.args.workers c.args.config.now c.args.names.now orders taken c.share_orders-taken.ensures) c.stated.ensures.stated

use Rattle.std.proofs.Common.{◌≡◌, true}
use Rattle.xm_slots.specs.Listing.{rises}
use Rattle.xm_book.proofs.FirstKinds.{limit-kind, market-kind}
use Rattle.xm_book.proofs.order_queues.OrderQueues.first_kind.Goals as goal

pub returns-in-None-clause-kind : goal.returns-in-None-clause-kind
returns-in-None-clause-kind g c =
    let rise : rises 0 c.args.self.now.orders c.args.self.now.adds ≡ true = rw (← c.self.view_is) c.self.invariant.rise in
    rw c.limited.ensures (limit-kind c.args.phase c.args.side c.args.self.now.orders c.in-None.ensures c.args.self.now.adds rise c.limit_after.result c.limit_after.ensures)

pub returns-in-Some-clause-kind : goal.returns-in-Some-clause-kind
returns-in-Some-clause-kind g c = market-kind c.args.phase c.args.side c.args.self.now.orders c.in-Some._entry.now c.in-Some.ensures

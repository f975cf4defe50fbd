use Rattle.std.proofs.Common.{IsSome, option_copied, subst}
use Rattle.xm_slots.proofs.InTime.{held-in-time}
use Rattle.xm_slots.proofs.Leaving.{key-listed}
use Rattle.xm_book.proofs.order_queues.OrderQueues.get.Goals as goal

pub returns-clause-held : goal.returns-clause-held
returns-clause-held g c =
    let q = c.self.inside in
    let kept = c.self.invariant in
    rw (← c.self.view_is) (held-in-time q.listing q.adds q.entries kept.queued.lie kept.queued.count kept.rise c.args.key (option_copied c.get.result) c.get.ensures)

pub returns-clause-key : goal.returns-clause-key
returns-clause-key g c some =
    let q = c.self.inside in
    let kept = c.self.invariant in
    rw (← c.self.view_is) (key-listed q.listing q.entries kept.queued.lie kept.queued.distinct kept.queued.count c.args.key (subst IsSome c.get.ensures some))

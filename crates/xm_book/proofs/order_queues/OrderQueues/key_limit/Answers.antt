use Rattle.xm_slots.proofs.Expiring.{all-below}
use Rattle.xm_book.proofs.order_queues.OrderQueues.key_limit.Goals as goal

pub returns : goal.returns
returns g c =
    let q = c.self.inside in
    rw (c.key_limit.ensures, ← c.self.view_is) (all-below q.entries q.listing c.self.invariant.queued.lie)

use Rattle.xm_book.proofs.Keeping.{places-less}
use Rattle.xm_book.proofs.order_queues.OrderQueues.release.Goals as goal

pub invariant_of-self : goal.invariant_of-self
invariant_of-self g c =
    let q = c.self.inside in
    let kept = c.self.invariant in
    record { queued = kept.queued; places = places-less q.listing q.places q.entries q.ladders kept.places c.args.place.now c.release.new.self c.release.ensures; rise = kept.rise }

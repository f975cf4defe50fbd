use Rattle.xm_book.proofs.Indexing.{place-gained, seen-gained}
use Rattle.xm_book.proofs.book.Book.reserve_for.Goals as goal

pub invariant_of-self-in-Ok : goal.invariant_of-self-in-Ok
invariant_of-self-in-Ok g c =
    let b = c.self.inside in
    place-gained b.queues b.names c.self.invariant c.args.place.now c.reserve-2.new.self c.reserve-2.ensures.rest c.reserve.new.self c.reserve.ensures.names c.in-Ok.ensures.place
    (rw (← c.self.view_is) at c.requires) c.in_ok-reserve.ensures.reserved

pub returns-in-Ok-clause-ok : goal.returns-in-Ok-clause-ok
returns-in-Ok-clause-ok g c =
    let b = c.self.inside in
    rw (← c.self.view_is) (seen-gained b.queues b.names c.self.invariant c.args.place.now c.reserve-2.new.self c.reserve-2.ensures.rest c.reserve.new.self c.reserve.ensures.names c.in-Ok.ensures.place)

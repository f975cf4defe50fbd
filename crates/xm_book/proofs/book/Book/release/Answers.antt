use Rattle.xm_book.proofs.Indexing.{place-left, seen-given-up}
use Rattle.xm_book.proofs.book.Book.release.Goals as goal

pub invariant_of-self : goal.invariant_of-self
invariant_of-self g c =
    let b = c.self.inside in
    place-left b.queues b.names c.self.invariant c.args.place.now c.release.new.self c.release.ensures.rest c.release-2.new.self c.release-2.ensures.names c.release.ensures.place c.release-2.ensures.reserved

pub returns : goal.returns
returns g c =
    let b = c.self.inside in
    rw (← c.self.view_is) (seen-given-up b.queues b.names c.self.invariant c.args.place.now c.release.new.self c.release.ensures.rest c.release-2.new.self c.release-2.ensures.names c.release.ensures.place)

use Rattle.xm_book.specs.Places.{place_of}
use Rattle.xm_book.proofs.Indexing.{absent, order-joined}
use Rattle.xm_book.proofs.Reserved.{Gains-same}
use Rattle.xm_book.proofs.book.Book.add.Goals as goal

pub insert-requires-clause-absent : goal.insert-requires-clause-absent
insert-requires-clause-absent g c =
    let b = c.self.inside in
    absent b.queues b.names c.self.invariant c.args.order.member c.args.order.reference (rw (← c.self.view_is) at c.requires.name)

pub invariant_of-self : goal.invariant_of-self
invariant_of-self g c =
    let b = c.self.inside in
    let joined = c.push-key.ensures in
    order-joined b.queues b.names c.self.invariant c.args.order b.queues.adds c.push-key.result c.push-key.new.self joined.orders joined.used (rw (← c.self.view_is) at c.requires.name) c.requires.rest
    c.insert.new.self c.insert.ensures.names c.insert.ensures.reserved

pub returns-clause-used : goal.returns-clause-used
returns-clause-used g c =
    rw (← c.self.view_is) (Gains-same (place_of c.args.order) c.push-key.new.self.reserved c.self.inside.queues.reserved c.push-key.ensures.used)

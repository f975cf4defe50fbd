use Rattle.xm_book.specs.Listing.{order_owner, order_reference}
use Rattle.xm_slots.proofs.Naming.{nothing-removed}
use Rattle.xm_slots.specs.Listing.{listed_item}
use Rattle.std.proofs.Common.{map, sym}
use Rattle.xm_book.proofs.Indexing.{key-there, order-found, order-left, seen, seen-left, unknown, unnamed}
use Rattle.xm_book.proofs.book.Book.remove.Goals as goal

pub take-requires : goal.take-requires
take-requires g c =
    let b = c.self.inside in
    key-there b.queues b.names c.self.invariant c.args.member c.args.reference c.in-Some.key c.in-Some.ensures.key

pub invariant_of-self-in-Some : goal.invariant_of-self-in-Some
invariant_of-self-in-Some g c =
    let b = c.self.inside in
    let left = c.take.ensures in
    order-left b.queues b.names c.self.invariant c.args.member c.args.reference c.in-Some.key c.in-Some.ensures.key left.distinct c.take.new.self left.left c.remove.new.self c.remove.ensures.names c.remove.ensures.reserved

pub returns-in-None-clause-found : goal.returns-in-None-clause-found
returns-in-None-clause-found g c =
    let b = c.self.inside in
    rw (← c.self.view_is) (sym (unnamed b.queues b.names c.self.invariant c.args.member c.args.reference c.in-None.ensures.key))

pub returns-in-None-clause-left : goal.returns-in-None-clause-left
returns-in-None-clause-left g c =
    let b = c.self.inside in
    let none = unknown b.queues b.names c.self.invariant c.args.member c.args.reference c.in-None.ensures.key in
    rw (← c.self.view_is) (λ i. record (seen b.queues) { orders = sym (nothing-removed order_owner order_reference c.args.member c.args.reference (map listed_item b.queues.orders) none) i })

pub returns-in-Some-clause-found : goal.returns-in-Some-clause-found
returns-in-Some-clause-found g c =
    let b = c.self.inside in
    rw (← c.self.view_is) (order-found b.queues b.names c.self.invariant c.args.member c.args.reference c.in-Some.key c.in-Some.ensures.key c.take.result c.take.ensures.order)

pub returns-in-Some-clause-left : goal.returns-in-Some-clause-left
returns-in-Some-clause-left g c =
    let b = c.self.inside in
    let left = c.take.ensures in
    rw (← c.self.view_is) (seen-left b.queues b.names c.self.invariant c.args.member c.args.reference c.in-Some.key c.in-Some.ensures.key left.distinct c.take.new.self left.left)

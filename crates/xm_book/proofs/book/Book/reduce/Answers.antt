use Rattle.xm_slots.specs.Listing.{listed_item}
use Rattle.std.proofs.Common.{map, sym}
use Rattle.xm_book.proofs.Indexing.{bounds-of-key, in-bounds, key-there, known, order-reduced, seen, seen-reduced, unknown}
use Rattle.xm_book.proofs.Named.{nothing-reduced}
use Rattle.xm_book.proofs.book.Book.reduce.Goals as goal

pub reduce-requires-clause-there : goal.reduce-requires-clause-there
reduce-requires-clause-there g c =
    let b = c.self.inside in
    key-there b.queues b.names c.self.invariant c.args.member c.args.reference c.in-Some.key c.in-Some.ensures

pub reduce-requires-clause-rest : goal.reduce-requires-clause-rest
reduce-requires-clause-rest g c =
    let b = c.self.inside in
    bounds-of-key b.queues b.names c.self.invariant c.args.member c.args.reference c.in-Some.key c.in-Some.ensures c.args.rest (rw (← c.self.view_is) at c.requires)

pub invariant_of-self : goal.invariant_of-self
invariant_of-self g c =
    let b = c.self.inside in
    let less = c.reduce.ensures in
    order-reduced b.queues b.names c.self.invariant c.args.member c.args.reference c.in-Some.key c.in-Some.ensures c.args.rest less.distinct c.reduce.new.self less.reduced
    (in-bounds b.queues b.names c.self.invariant c.args.member c.args.reference c.in-Some.key c.in-Some.ensures c.args.rest (rw (← c.self.view_is) at c.requires))

pub returns-in-None-clause-known : goal.returns-in-None-clause-known
returns-in-None-clause-known g c =
    let b = c.self.inside in
    rw (← c.self.view_is) (sym (unknown b.queues b.names c.self.invariant c.args.member c.args.reference c.in-None.ensures))

pub returns-in-None-clause-reduced : goal.returns-in-None-clause-reduced
returns-in-None-clause-reduced g c =
    let b = c.self.inside in
    let none = unknown b.queues b.names c.self.invariant c.args.member c.args.reference c.in-None.ensures in
    rw (← c.self.view_is) (λ i. record (seen b.queues) { orders = sym (nothing-reduced c.args.member c.args.reference c.args.rest (map listed_item b.queues.orders) none) i })

pub returns-in-Some-clause-known : goal.returns-in-Some-clause-known
returns-in-Some-clause-known g c =
    let b = c.self.inside in
    rw (← c.self.view_is) (sym (known b.queues b.names c.self.invariant c.args.member c.args.reference c.in-Some.key c.in-Some.ensures))

pub returns-in-Some-clause-reduced : goal.returns-in-Some-clause-reduced
returns-in-Some-clause-reduced g c =
    let b = c.self.inside in
    let less = c.reduce.ensures in
    rw (← c.self.view_is) (seen-reduced b.queues b.names c.self.invariant c.args.member c.args.reference c.in-Some.key c.in-Some.ensures c.args.rest less.distinct c.reduce.new.self less.reduced)

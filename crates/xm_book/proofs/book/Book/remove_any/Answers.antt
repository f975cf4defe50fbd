use Rattle.std.proofs.Common.{sym}
use Rattle.xm_book.proofs.Indexing.{key-there, member-left, member-shorter, nothing-of-member, order-left, seen}
use Rattle.xm_book.proofs.book.Book.remove_any.Goals as goal

pub take-requires : goal.take-requires
take-requires g c =
    let b = c.self.inside in
    key-there b.queues b.names c.self.invariant c.args.member c.in-Some._reference c.in-Some.key (sym c.in-Some.ensures.key)

pub invariant_of-self-in-Some : goal.invariant_of-self-in-Some
invariant_of-self-in-Some g c =
    let b = c.self.inside in
    let left = c.take.ensures in
    order-left b.queues b.names c.self.invariant c.args.member c.in-Some._reference c.in-Some.key (sym c.in-Some.ensures.key) left.distinct c.take.new.self left.left c.pop.new.self c.in-Some.ensures.left c.pop.ensures.reserved

pub returns-in-None-clause-none : goal.returns-in-None-clause-none
returns-in-None-clause-none g c h =
    let b = c.self.inside in
    rw (← c.self.view_is) (λ i. record (seen b.queues) { orders = sym (nothing-of-member b.queues b.names c.self.invariant c.args.member c.in-None.ensures.none) i })

pub returns-in-Some-clause-some : goal.returns-in-Some-clause-some
returns-in-Some-clause-some g c h =
    let b = c.self.inside in
    let left = c.take.ensures in
    rw (← c.self.view_is) (member-shorter b.queues b.names c.self.invariant c.args.member c.in-Some._reference c.in-Some.key (sym c.in-Some.ensures.key) left.distinct c.take.new.self left.left)

pub returns-in-Some-clause-left : goal.returns-in-Some-clause-left
returns-in-Some-clause-left g c =
    let b = c.self.inside in
    let left = c.take.ensures in
    rw (← c.self.view_is) (member-left b.queues b.names c.self.invariant c.args.member c.in-Some._reference c.in-Some.key (sym c.in-Some.ensures.key) left.distinct c.take.new.self left.left)

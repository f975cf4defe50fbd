use Rattle.std.proofs.Common.{sym, ◌∙◌}
use Rattle.xm_stops.proofs.Indexing.{found-by-reference, key-there, member-left, nothing-of-member, one-fewer, removed-by-reference, seen, seen-left, stop-left}
use Rattle.xm_stops.proofs.stops.Stops.remove_any.Goals as goal

pub take-requires : goal.take-requires
take-requires g c =
    let b = c.self.inside in
    key-there b.queues b.names c.self.invariant c.args.member c.in-Some._reference c.in-Some.key (sym c.in-Some.ensures.key)

pub invariant_of-self-in-Some : goal.invariant_of-self-in-Some
invariant_of-self-in-Some g c =
    let b = c.self.inside in
    let left = c.take.ensures in
    stop-left b.queues b.names c.self.invariant c.args.member c.in-Some._reference c.in-Some.key (sym c.in-Some.ensures.key) left.distinct c.take.new.self left.left c.pop.new.self c.in-Some.ensures.left c.pop.ensures.reserved

pub returns-in-None-clause-none : goal.returns-in-None-clause-none
returns-in-None-clause-none g c =
    let b = c.self.inside in
    rw (← c.self.view_is) (nothing-of-member b.queues b.names c.self.invariant c.args.member c.in-None.ensures.none)

pub returns-in-Some-clause-found : goal.returns-in-Some-clause-found
returns-in-Some-clause-found g c =
    let b = c.self.inside in
    rw (← c.self.view_is) (found-by-reference b.queues b.names c.self.invariant c.args.member c.in-Some._reference c.in-Some.key (sym c.in-Some.ensures.key) c.take.result c.take.ensures.entry)

pub returns-in-Some-clause-removed : goal.returns-in-Some-clause-removed
returns-in-Some-clause-removed g c =
    let b = c.self.inside in
    let left = c.take.ensures in
    rw (← c.self.view_is)
    (seen-left b.queues b.names c.self.invariant c.args.member c.in-Some._reference c.in-Some.key (sym c.in-Some.ensures.key) left.distinct c.take.new.self left.left
    ∙ (λ i. record (seen b.queues) { stops = removed-by-reference b.queues b.names c.self.invariant c.args.member c.in-Some._reference c.in-Some.key (sym c.in-Some.ensures.key) c.take.result left.entry i }))

pub returns-in-Some-clause-fewer : goal.returns-in-Some-clause-fewer
returns-in-Some-clause-fewer g c =
    let b = c.self.inside in
    let left = c.take.ensures in
    rw (← c.self.view_is) (one-fewer b.queues b.names c.self.invariant c.args.member c.in-Some._reference c.in-Some.key (sym c.in-Some.ensures.key) left.distinct c.take.new.self left.left)

pub returns-in-Some-clause-left : goal.returns-in-Some-clause-left
returns-in-Some-clause-left g c =
    let b = c.self.inside in
    let left = c.take.ensures in
    rw (← c.self.view_is) (member-left b.queues b.names c.self.invariant c.args.member c.in-Some._reference c.in-Some.key (sym c.in-Some.ensures.key) left.distinct c.take.new.self left.left)

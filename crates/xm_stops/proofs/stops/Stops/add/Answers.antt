use Rattle.xm_stops.proofs.Indexing.{absent, stop-joined}
use Rattle.xm_stops.proofs.stops.Stops.add.Goals as goal

pub insert-requires-clause-absent : goal.insert-requires-clause-absent
insert-requires-clause-absent g c =
    let b = c.self.inside in
    absent b.queues b.names c.self.invariant c.args.stop.member c.args.stop.reference (rw (← c.self.view_is) at c.requires.name)

pub invariant_of-self : goal.invariant_of-self
invariant_of-self g c =
    let b = c.self.inside in
    stop-joined b.queues b.names c.self.invariant c.args.stop b.queues.adds c.push-key.result c.push-key.new.self c.push-key.ensures (rw (← c.self.view_is) at c.requires.name)
    (rw (← c.self.view_is) at c.requires.room) c.insert.new.self c.insert.ensures.names c.insert.ensures.reserved

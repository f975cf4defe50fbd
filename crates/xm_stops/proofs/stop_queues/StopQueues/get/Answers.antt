use Rattle.xm_slots.proofs.Leaving.{key-listed}
use Rattle.xm_stops.proofs.stop_queues.StopQueues.get.Goals as goal

pub returns-clause-held : goal.returns-clause-held
returns-clause-held g c there =
    let q = c.self.inside in
    let queued = c.self.invariant.queued in
    rw (← c.self.view_is) (key-listed q.listing q.entries queued.lie queued.distinct queued.count c.args.key (rw c.get.ensures at there))

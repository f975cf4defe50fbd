use Rattle.xm_stops.proofs.Growing.{room-for}
use Rattle.xm_stops.proofs.Joining.{joined, lacks}
use Rattle.xm_slots.proofs.Keeping.{rises-push}
use Rattle.xm_stops.proofs.stop_queues.StopQueues.push.Goals as goal

pub push_back-requires-clause-queue : goal.push_back-requires-clause-queue
push_back-requires-clause-queue g c =
    let q = c.self.inside in
    lacks q.listing q.entries q.links q.triggers c.self.invariant.queued c.args.stop.now c.queue-ends.result c.queue-ends.ensures c.insert-key.result c.insert-key.ensures.vacant

pub invariant_of-self : goal.invariant_of-self
invariant_of-self g c =
    let q = c.self.inside in
    let slots = c.insert-key in
    let links = c.push_back in
    let put = c.put in
    let room = room-for q.ready c.args.stop.now q.adds q.entries q.triggers (rw (← c.self.view_is) at c.requires) c.self.invariant.room in
    rw c.join.ensures (record {
      queued = joined q.listing q.entries q.links q.triggers c.self.invariant.queued c.args.stop.now c.queue-ends.result c.queue-ends.ensures q.adds slots.result
          slots.ensures.vacant slots.new.self slots.ensures.updates slots.ensures.used slots.ensures.capacity links.new.self links.new.ends links.ensures.last links.ensures.others links.ensures.limit
          put.new.self put.ensures.queues room.trigger put.ensures.triggers_kept;
      room = tt;
      rise = rises-push 0 q.listing _ c.self.invariant.rise;
    })

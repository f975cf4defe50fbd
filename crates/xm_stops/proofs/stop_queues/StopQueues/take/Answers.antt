use Rattle.std.proofs.Common.{arith}
use Rattle.xm_stops.proofs.Growing.{ready-kept}
use Rattle.xm_slots.proofs.Keeping.{rises-kept}
use Rattle.xm_slots.proofs.Leaving.{there-at}
use Rattle.xm_stops.proofs.Leaving.{key-there, left-queued, placed-there, queue-there}
use Rattle.xm_slots.specs.Listing.{is_other_key}
use Rattle.xm_stops.proofs.stop_queues.StopQueues.take.Goals as goal

pub entry-entry-requires : goal.entry-entry-requires
entry-entry-requires g c =
    let q = c.self.inside in
    there-at q.listing q.entries c.self.invariant.queued.lie c.args.key (rw (← c.self.view_is) at c.requires)

pub queue-ends-requires : goal.queue-ends-requires
queue-ends-requires g c =
    let q = c.self.inside in
    (placed-there q.listing q.entries q.links q.triggers c.self.invariant.queued c.args.key (rw (← c.self.view_is) at c.requires) c.entry-entry.result.now c.entry-entry.ensures).in_range

pub unlink-requires : goal.unlink-requires
unlink-requires g c =
    let q = c.self.inside in
    key-there q.listing q.entries q.links q.triggers c.self.invariant.queued c.args.key (rw (← c.self.view_is) at c.requires) c.entry-entry.result.now c.entry-entry.ensures c.queue-ends.result c.queue-ends.ensures

pub set-requires-clause-in_range : goal.set-requires-clause-in_range
set-requires-clause-in_range g c =
    let q = c.self.inside in
    (placed-there q.listing q.entries q.links q.triggers c.self.invariant.queued c.args.key (rw (← c.self.view_is) at c.requires) c.entry-entry.result.now c.entry-entry.ensures).in_range

pub set-requires-clause-trigger : goal.set-requires-clause-trigger
set-requires-clause-trigger g c =
    let q = c.self.inside in
    (placed-there q.listing q.entries q.links q.triggers c.self.invariant.queued c.args.key (rw (← c.self.view_is) at c.requires) c.entry-entry.result.now c.entry-entry.ensures).room

pub set-requires-clause-there : goal.set-requires-clause-there
set-requires-clause-there g c =
    let q = c.self.inside in
    queue-there q.listing q.entries q.links q.triggers c.self.invariant.queued c.args.key (rw (← c.self.view_is) at c.requires) c.entry-entry.result.now c.entry-entry.ensures

pub invariant_of-self : goal.invariant_of-self
invariant_of-self g c =
    let q = c.self.inside in
    let slots = c.vacate in
    let links = c.unlink in
    let set = c.set in
    rw c.leave.ensures (record {
      queued = left-queued q.listing q.entries q.links q.triggers c.self.invariant.queued c.args.key (rw (← c.self.view_is) at c.requires) c.entry-entry.result.now c.entry-entry.ensures c.queue-ends.result c.queue-ends.ensures
          slots.new.self slots.ensures.updates slots.ensures.used slots.ensures.capacity links.new.self links.new.ends links.ensures.left links.ensures.others links.ensures.limit
          set.new.self set.ensures.set set.ensures.others set.ensures.triggers_kept;
      room = ready-kept q.ready q.adds q.entries slots.new.self q.triggers set.new.self (omega (arith, slots.ensures.used)) (omega (arith, slots.ensures.capacity)) set.ensures.triggers_kept set.ensures.room_kept c.self.invariant.room;
      rise = rises-kept (is_other_key c.args.key) 0 q.listing q.adds c.self.invariant.rise;
    })

use Rattle.std.proofs.Common.{filter, arith}
use Rattle.xm_slots.specs.Listing.{is_other_key}
use Rattle.xm_slots.proofs.Tests.{length-kept}
use Rattle.xm_slots.proofs.Keeping.{rises-kept}
use Rattle.xm_slots.proofs.Leaving.{there-at}
use Rattle.xm_book.proofs.Joining.{units-fit}
use Rattle.xm_book.proofs.Keeping.{places-kept}
use Rattle.xm_book.proofs.Leaving.{key-there, kind-there, left-queued, level-there, orders-there, some-found, units-there}
use Rattle.xm_book.specs.Levels.{level_for}
use Rattle.xm_book.proofs.order_queues.OrderQueues.take.Goals as goal

pub entry-entry-requires : goal.entry-entry-requires
entry-entry-requires g c =
    let q = c.self.inside in
    there-at q.listing q.entries c.self.invariant.queued.lie c.args.key (rw (← c.self.view_is) at c.requires)

pub leave_level-ends-requires-clause-key : goal.leave_level-ends-requires-clause-key
leave_level-ends-requires-clause-key g c level found =
    let q = c.self.inside in
    key-there q.listing q.entries q.links q.ladders c.self.invariant.queued c.args.key (rw (← c.self.view_is) at c.requires) c.entry-entry.result.now c.entry-entry.ensures level found

pub leave_level-ends-requires-clause-orders : goal.leave_level-ends-requires-clause-orders
leave_level-ends-requires-clause-orders g c level found =
    let q = c.self.inside in
    orders-there q.listing q.entries q.links q.ladders c.self.invariant.queued c.args.key (rw (← c.self.view_is) at c.requires) c.entry-entry.result.now c.entry-entry.ensures level found

pub leave_level-ends-requires-clause-units : goal.leave_level-ends-requires-clause-units
leave_level-ends-requires-clause-units g c level found =
    let q = c.self.inside in
    units-there q.listing q.entries q.links q.ladders c.self.invariant.queued c.args.key (rw (← c.self.view_is) at c.requires) c.entry-entry.result.now c.entry-entry.ensures level found

pub leave_level-ends-requires-clause-kind : goal.leave_level-ends-requires-clause-kind
leave_level-ends-requires-clause-kind g c =
    let q = c.self.inside in
    let found = some-found (level_for c.entry-entry.result.now.item q.ladders) in
    kind-there q.listing q.entries q.links q.ladders c.self.invariant.queued c.args.key (rw (← c.self.view_is) at c.requires) c.entry-entry.result.now c.entry-entry.ensures found.0 found.1

pub leave_level-ends-requires-clause-there : goal.leave_level-ends-requires-clause-there
leave_level-ends-requires-clause-there g c =
    let q = c.self.inside in
    let found = some-found (level_for c.entry-entry.result.now.item q.ladders) in
    level-there q.listing q.entries q.links q.ladders c.self.invariant.queued c.args.key (rw (← c.self.view_is) at c.requires) c.entry-entry.result.now c.entry-entry.ensures found.0 found.1

pub unlink-requires : goal.unlink-requires
unlink-requires g c =
    let q = c.self.inside in
    key-there q.listing q.entries q.links q.ladders c.self.invariant.queued c.args.key (rw (← c.self.view_is) at c.requires) c.entry-entry.result.now c.entry-entry.ensures c.leave_level-ends.result c.leave_level-ends.ensures.found

pub invariant_of-self : goal.invariant_of-self
invariant_of-self g c =
    let q = c.self.inside in
    let slots = c.vacate in
    let links = c.unlink in
    rw c.leave.ensures (record {
      queued = left-queued q.listing q.entries q.links q.ladders c.self.invariant.queued c.args.key (rw (← c.self.view_is) at c.requires) c.entry-entry.result.now c.entry-entry.ensures c.leave_level-ends.result c.leave_level-ends.ensures.found
          slots.new.self slots.ensures.updates slots.ensures.used slots.ensures.capacity links.new.self links.new.ends links.ensures.left links.ensures.others links.ensures.limit
          c.leave_level-ends.new.ladders (rw (← links.ensures.ends) at c.leave_level-ends.ensures.set) c.leave_level-ends.ensures.others c.leave_level-ends.ensures.kinds_kept;
      places = places-kept q.listing q.places q.entries q.ladders c.self.invariant.places (filter (is_other_key c.args.key) q.listing) (length-kept (is_other_key c.args.key) q.listing)
          slots.new.self (omega (arith, slots.ensures.capacity)) c.leave_level-ends.new.ladders c.leave_level-ends.ensures.kinds_kept c.leave_level-ends.ensures.room_kept;
      rise = rises-kept (is_other_key c.args.key) 0 q.listing q.adds c.self.invariant.rise;
    })

pub leave_level-ends-requires-clause-few : goal.leave_level-ends-requires-clause-few
leave_level-ends-requires-clause-few g c level found =
    let q = c.self.inside in
    omega (arith, units-fit q.listing q.entries q.links q.ladders c.self.invariant.queued c.entry-entry.result.now.item level found)

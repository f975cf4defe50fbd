use Rattle.std.proofs.Common.{arith}
use Rattle.xm_book.proofs.Joining.{joined, lacks, orders-fit, units-fit}
use Rattle.xm_rules.proofs.Ranges.{range_high}
use Rattle.xm_book.proofs.Keeping.{few-orders, kind-room, level-room, places-used, some-place}
use Rattle.xm_slots.proofs.Keeping.{rises-push}
use Rattle.xm_book.proofs.Reserved.{Gains-left}
use Rattle.xm_book.specs.Places.{place_of}
use Rattle.xm_book.specs.Reserved.{Gains, without_one}
use Rattle.xm_book.proofs.order_queues.OrderQueues.push.Goals as goal

pub insert-key-requires-clause-room : goal.insert-key-requires-clause-room
insert-key-requires-clause-room g c =
    let q = c.self.inside in
    let p = place_of c.args.order.now in
    let there = rw (← c.self.view_is) at c.requires.reserved in
    omega (
      arith,
      c.self.invariant.queued.count,
      c.self.invariant.places.entries_room,
      some-place q.listing q.places q.entries q.ladders c.self.invariant.places c.args.order.now (without_one p q.places) (Gains-left p q.places there),
    )

pub join_level-ends-requires-clause-key : goal.join_level-ends-requires-clause-key
join_level-ends-requires-clause-key g c = omega (arith, c.insert-key.ensures.within, c.self.invariant.queued.fits)

pub join_level-ends-requires-clause-orders : goal.join_level-ends-requires-clause-orders
join_level-ends-requires-clause-orders g c level found =
    let q = c.self.inside in
    omega (arith, orders-fit q.listing q.entries q.links q.ladders c.self.invariant.queued c.args.order.now level found)

pub join_level-ends-requires-clause-units : goal.join_level-ends-requires-clause-units
join_level-ends-requires-clause-units g c level found =
    let q = c.self.inside in
    omega (arith, range_high c.args.order.now.rest c.requires.rest, units-fit q.listing q.entries q.links q.ladders c.self.invariant.queued c.args.order.now level found)

pub join_level-ends-requires-clause-kind : goal.join_level-ends-requires-clause-kind
join_level-ends-requires-clause-kind g c =
    let q = c.self.inside in
    let p = place_of c.args.order.now in
    let there = rw (← c.self.view_is) at c.requires.reserved in
    kind-room q.listing q.places q.entries q.ladders c.self.invariant.places c.args.order.now (without_one p q.places) (Gains-left p q.places there)

pub join_level-ends-requires-clause-room : goal.join_level-ends-requires-clause-room
join_level-ends-requires-clause-room g c vacant =
    let q = c.self.inside in
    let p = place_of c.args.order.now in
    let there = rw (← c.self.view_is) at c.requires.reserved in
    level-room q.listing q.places q.entries q.ladders c.self.invariant.places c.args.order.now (without_one p q.places) (Gains-left p q.places there)

pub push_back-requires-clause-queue : goal.push_back-requires-clause-queue
push_back-requires-clause-queue g c =
    let q = c.self.inside in
    lacks q.listing q.entries q.links q.ladders c.self.invariant.queued c.args.order.now c.join_level-ends.result c.join_level-ends.ensures.found c.insert-key.result c.insert-key.ensures.vacant

pub release-requires : goal.release-requires
release-requires g c = rw c.of.ensures (rw (← c.self.view_is) at c.requires.reserved)

pub invariant_of-self : goal.invariant_of-self
invariant_of-self g c =
    let q = c.self.inside in
    let o = c.args.order.now in
    let slots = c.insert-key in
    let links = c.push_back in
    let join = c.join_level-ends in
    let gain : Gains (place_of o) c.release.new.self q.places = rw c.of.ensures at c.release.ensures in
    let few = few-orders q.listing q.places q.entries q.ladders c.self.invariant.places o c.release.new.self gain in
    let kind = kind-room q.listing q.places q.entries q.ladders c.self.invariant.places o c.release.new.self gain in
    rw c.join.ensures (record {
      queued = joined q.listing q.entries q.links q.ladders c.self.invariant.queued o join.result join.ensures.found q.adds slots.result
          slots.ensures.vacant slots.new.self slots.ensures.updates slots.ensures.used slots.ensures.capacity links.new.self links.new.ends links.ensures.last links.ensures.others links.ensures.limit
          join.new.ladders (rw (← links.ensures.ends) at join.ensures.levels) few (range_high o.rest c.requires.rest) kind join.ensures.kinds_kept;
      places = places-used q.listing q.places q.entries q.ladders c.self.invariant.places o c.release.new.self gain _ slots.new.self slots.ensures.capacity
          join.new.ladders join.ensures.kinds_kept join.ensures.room_used join.ensures.room_kept join.ensures.other_ladder;
      rise = rises-push 0 q.listing _ c.self.invariant.rise;
    })

use Rattle.std.proofs.Common.{◌≡◌, ◌+◌, ◌-◌, ◌≤◌, ℕ, map, refl, arith}
use Rattle.std.proofs.lemmas.List.{length-map}
use Rattle.std.proofs.lemmas.List.Elements.{All-contains}
use Rattle.xm_slots.specs.declared.listing.Listed.{Listed}
use Rattle.xm_book.specs.Listing.{reduced_at}
use Rattle.xm_book.proofs.Joining.{units-fit}
use Rattle.xm_book.proofs.Keeping.{places-kept, rises-reduced}
use Rattle.xm_book.proofs.Leaving.{kind-there, level-there, orders-there, taken-rest, units-there}
use Rattle.xm_slots.proofs.Leaving.{there-at}
use Rattle.xm_book.proofs.Reducing.{no_room, reduced-queued, replaced-reduced}
use Rattle.xm_book.proofs.order_queues.OrderQueues.reduce.Goals as goal
use Rattle.xm_rules.specs.declared.orders.Order.{Order}
use Rattle.xm_ticks.specs.declared.numbers.TheConstants.{MAX_QUANTITY}

pub entry-entry-requires : goal.entry-entry-requires
entry-entry-requires g c =
    let q = c.self.inside in
    there-at q.listing q.entries c.self.invariant.queued.lie c.args.key (rw (← c.self.view_is) at c.requires.there)

pub overflow_sub-entry : goal.overflow_sub-entry
overflow_sub-entry g c =
    let q = c.self.inside in
    taken-rest q.listing q.entries q.links q.ladders c.self.invariant.queued c.args.key (rw (← c.self.view_is) at c.requires.there) c.entry-entry.result.now c.entry-entry.ensures c.level_for-level.result c.level_for-level.ensures
    (λ (n : ℕ). c.args.rest ≤ n) (λ x at k. (rw (← c.self.view_is) at c.requires.rest c.self.invariant.queued.distinct x at k).1)

pub overflow_sub-level : goal.overflow_sub-level
overflow_sub-level g c =
    let q = c.self.inside in
    omega (
      arith,
      c.from.ensures,
      units-there q.listing q.entries q.links q.ladders c.self.invariant.queued c.args.key (rw (← c.self.view_is) at c.requires.there) c.entry-entry.result.now c.entry-entry.ensures c.level_for-level.result c.level_for-level.ensures,
    )

pub put_level-requires-clause-kind : goal.put_level-requires-clause-kind
put_level-requires-clause-kind g c =
    let q = c.self.inside in
    kind-there q.listing q.entries q.links q.ladders c.self.invariant.queued c.args.key (rw (← c.self.view_is) at c.requires.there) c.entry-entry.result.now c.entry-entry.ensures c.level_for-level.result c.level_for-level.ensures

pub put_level-requires-clause-orders : goal.put_level-requires-clause-orders
put_level-requires-clause-orders g c =
    let q = c.self.inside in
    orders-there q.listing q.entries q.links q.ladders c.self.invariant.queued c.args.key (rw (← c.self.view_is) at c.requires.there) c.entry-entry.result.now c.entry-entry.ensures c.level_for-level.result c.level_for-level.ensures

pub put_level-requires-clause-room : goal.put_level-requires-clause-room
put_level-requires-clause-room g c vacant =
    let q = c.self.inside in
    absurd (no_room _ vacant (level-there q.listing q.entries q.links q.ladders c.self.invariant.queued c.args.key (rw (← c.self.view_is) at c.requires.there) c.entry-entry.result.now c.entry-entry.ensures c.level_for-level.result c.level_for-level.ensures))

pub invariant_of-self : goal.invariant_of-self
invariant_of-self g c =
    let q = c.self.inside in
    let kept = c.self.invariant in
    let e = c.entry-entry.result.now in
    let there = rw (← c.self.view_is) at c.requires.there in
    let lies = c.entry-entry.ensures in
    let level = c.level_for-level in
    let put = c.put_level in
    let lower = taken-rest q.listing q.entries q.links q.ladders kept.queued c.args.key there e lies level.result level.ensures (λ (n : ℕ). c.args.rest ≤ n) (λ x at k. (rw (← c.self.view_is) at c.requires.rest c.self.invariant.queued.distinct x at k).1) in
    let small = taken-rest q.listing q.entries q.links q.ladders kept.queued c.args.key there e lies level.result level.ensures (λ (n : ℕ). n ≤ MAX_QUANTITY)
    (λ x at k. All-contains (λ (x : Listed Order). x.item.rest ≤ MAX_QUANTITY) q.listing x kept.queued.small at) in
    let enough = units-there q.listing q.entries q.links q.ladders kept.queued c.args.key there e lies level.result level.ensures in
    let units : (level.result.units - c.from.result) + e.item.rest ≡ level.result.units + c.args.rest = omega (arith, c.from.ensures, lower, enough) in
    rw (c.replace.ensures, replaced-reduced q.entries c.args.key c.args.rest e lies q.listing kept.queued.lie) (record {
      queued = reduced-queued q.listing q.entries q.links q.ladders kept.queued c.args.key there e lies level.result level.ensures c.args.rest lower
          c.reduce_to.new.self (c.reduce_to.ensures.updates e lies) c.reduce_to.ensures.used c.reduce_to.ensures.capacity put.new.ladders (level.result.units - c.from.result) units
          put.ensures.levels put.ensures.kinds_kept (omega (arith, lower, small));
      places = places-kept q.listing q.places q.entries q.ladders kept.places (map (reduced_at c.args.key c.args.rest) q.listing) (omega (arith, length-map q.listing (reduced_at c.args.key c.args.rest)))
          c.reduce_to.new.self (omega (arith, c.reduce_to.ensures.capacity)) put.new.ladders put.ensures.kinds_kept
          (put.ensures.room_kept (level-there q.listing q.entries q.links q.ladders kept.queued c.args.key there e lies level.result level.ensures));
      rise = rises-reduced c.args.key c.args.rest 0 q.listing q.adds kept.rise;
    })

pub returns-clause-reduced : goal.returns-clause-reduced
returns-clause-reduced g c =
    let q = c.self.inside in
    rw (← c.self.view_is, c.replace.ensures, replaced-reduced q.entries c.args.key c.args.rest c.entry-entry.result.now c.entry-entry.ensures q.listing c.self.invariant.queued.lie) refl

pub put_level-requires-clause-units : goal.put_level-requires-clause-units
put_level-requires-clause-units g c =
    let q = c.self.inside in
    omega (arith, units-fit q.listing q.entries q.links q.ladders c.self.invariant.queued c.entry-entry.result.now.item c.level_for-level.result c.level_for-level.ensures)

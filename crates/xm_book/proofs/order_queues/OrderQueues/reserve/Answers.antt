use Rattle.std.proofs.Common.{arith}
use Rattle.xm_book.proofs.Growing.{grown-places, grown-queued}
use Rattle.xm_book.proofs.Keeping.{places-kept}
use Rattle.xm_book.proofs.order_queues.OrderQueues.reserve.Goals as goal

pub invariant_of-self-in_err-reserve_level : goal.invariant_of-self-in_err-reserve_level
invariant_of-self-in_err-reserve_level g c =
    let q = c.self.inside in
    let kept = c.self.invariant in
    let h = c.hold.ensures in
    let e = c.reserve_level.ensures in
    rw h.entries (record {
      queued = grown-queued q.listing q.entries q.links q.ladders c.hold.new.entries.capacity c.hold.new.links h.queues h.fits c.reserve_level.new.ladders e.same e.kinds_kept kept.queued;
      places = places-kept q.listing q.places q.entries q.ladders kept.places q.listing (omega arith) _ h.grows c.reserve_level.new.ladders e.kinds_kept e.room_kept;
      rise = kept.rise;
    })

pub invariant_of-self-2 : goal.invariant_of-self-2
invariant_of-self-2 g c =
    let q = c.self.inside in
    let kept = c.self.invariant in
    let h = c.hold.ensures in
    let e = c.reserve_level.ensures in
    let ok = c.in_ok-reserve_level.ensures in
    let few = rw (← c.self.view_is) at c.requires in
    rw h.entries (record {
      queued = grown-queued q.listing q.entries q.links q.ladders c.hold.new.entries.capacity c.hold.new.links h.queues h.fits c.reserve_level.new.ladders e.same e.kinds_kept kept.queued;
      places = grown-places q.listing q.entries q.links q.ladders c.hold.new.entries.capacity c.hold.new.links h.queues h.fits c.reserve_level.new.ladders e.same e.kinds_kept
          e.room_kept q.places kept.places c.args.place.now c.add.new.self c.add.ensures ok.kind (rw c.len-3.ensures at ok.room) few
          (omega (arith, c.in_ok-hold.ensures.holds, c.len.ensures, c.len-2.ensures, kept.queued.count));
      rise = kept.rise;
    })

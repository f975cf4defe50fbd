use Rattle.xm_stops.specs.Queued.{has_reached}
use Rattle.xm_stops.proofs.Draining.{drained-more, key-passed, none-drained, one-fewer, some-room}
use Rattle.xm_stops.proofs.taking.drain_reached.Goals as goal

pub loop-key-init : goal.loop-key-init
loop-key-init g c = record {
  indexed = c.requires.indexed;
  drained = none-drained (has_reached c.args.last) c.args.queues.now c.args.pending.now;
}

pub take_at-requires-clause-there : goal.take_at-requires-clause-there
take_at-requires-clause-there g c = key-passed (has_reached c.args.last) c.loop-key.queues.stops c.in-Some.key c.in-Some.ensures.some

pub take_at-requires-clause-room : goal.take_at-requires-clause-room
take_at-requires-clause-room g c =
    some-room (has_reached c.args.last) c.args.queues.now c.loop-key.queues c.args.pending.now c.loop-key.pending c.loop-key.invariant.drained c.in-Some.key c.in-Some.ensures.some c.requires.room

pub loop-key-smaller : goal.loop-key-smaller
loop-key-smaller g c =
    one-fewer (has_reached c.args.last) c.loop-key.queues c.take_at.new.queues c.in-Some.key c.in-Some.ensures.some c.take_at.ensures.distinct c.take_at.ensures.left

pub loop-key-preserved : goal.loop-key-preserved
loop-key-preserved g c =
    let q = c.loop-key.queues in
    let at = c.in-Some.ensures.some in
    let out = c.take_at in
    let some = some-room (has_reached c.args.last) c.args.queues.now q c.args.pending.now c.loop-key.pending c.loop-key.invariant.drained c.in-Some.key at c.requires.room in
    record {
      indexed = out.ensures.indexed;
      drained = drained-more (has_reached c.args.last) c.args.queues.now q out.new.queues c.args.pending.now c.loop-key.pending out.new.pending c.in-Some.key at out.ensures.distinct out.ensures.left some out.ensures.pending c.loop-key.invariant.drained;
    }

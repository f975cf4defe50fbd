use Rattle.std.proofs.Common.{length}
use Rattle.xm_stops.specs.Drained.{IsDrained}
use Rattle.xm_stops.specs.Indexed.{AreStopsIndexed}
use Rattle.xm_stops.specs.Queued.{has_reached}
use Rattle.xm_stops.proofs.taking.drain_reached.Given as goal

abbrev pub invariant-loop-key : goal.invariant-loop-key
invariant-loop-key g l = record {
  indexed : AreStopsIndexed l.queues l.names;
  drained : IsDrained (has_reached l.last) l.initial.queues l.queues l.initial.pending l.pending;
}

abbrev pub decreases-loop-key : goal.decreases-loop-key
decreases-loop-key g l = length l.queues.stops

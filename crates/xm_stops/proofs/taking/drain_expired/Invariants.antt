use Rattle.std.proofs.Common.{◌≡◌, true}
use Rattle.std.specs.List.{list_all}
use Rattle.xm_stops.specs.Drained.{IsDrained}
use Rattle.xm_stops.specs.Indexed.{AreStopsIndexed}
use Rattle.xm_slots.specs.Listing.{is_below, is_done, stays}
use Rattle.xm_stops.specs.Reasons.{is_leaving}
use Rattle.xm_stops.specs.declared.taking.Reason.TheVariants.{Expired}
use Rattle.xm_stops.proofs.taking.drain_expired.Given as goal

abbrev pub invariant-loop-key : goal.invariant-loop-key
invariant-loop-key g l = record {
  indexed : AreStopsIndexed l.queues l.names;
  drained : IsDrained (is_leaving (Expired l.today)) l.initial.queues l.queues l.initial.pending l.pending;
  below : list_all (is_below l.key-end) l.queues.stops ≡ true;
  done : list_all (is_done (stays (is_leaving (Expired l.today))) l.key) l.queues.stops ≡ true;
}

use Rattle.xm_stops.specs.Indexed.{AreStopsIndexed}
use Rattle.std.proofs.Common.{sym, subst}
use Rattle.xm_stops.specs.Queued.{QueuedStops}
use Rattle.xm_stops.proofs.Indexing.{nothing-indexed}
use Rattle.xm_stops.proofs.stops.Stops.new.Goals as goal

pub invariant_of-result : goal.invariant_of-result
invariant_of-result g c =
    subst (λ (v : QueuedStops). AreStopsIndexed v c.new-2.result) (sym c.new.ensures) (nothing-indexed c.new-2.result c.new-2.ensures.names c.new-2.ensures.reserved)

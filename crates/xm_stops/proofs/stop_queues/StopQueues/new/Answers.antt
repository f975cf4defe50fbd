use Rattle.xm_stops.proofs.Growing.{opened}
use Rattle.xm_stops.proofs.stop_queues.StopQueues.new.Goals as goal

pub invariant_of-result : goal.invariant_of-result
invariant_of-result g c = rw (c.new-4.ensures, c.new.ensures) (opened c.new-2.result c.new-3.result c.new-3.ensures)

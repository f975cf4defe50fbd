use Rattle.xm_stops.proofs.Reaching.{none-of-both}
use Rattle.xm_stops.proofs.stop_queues.StopQueues.reached.Goals as goal

pub returns-in-None-clause-none : goal.returns-in-None-clause-none
returns-in-None-clause-none g c = none-of-both c.args.last c.args.self.now.stops c.reached_on-in-None.result c.reached_on-in-None.ensures.none c.in-None.ensures.none

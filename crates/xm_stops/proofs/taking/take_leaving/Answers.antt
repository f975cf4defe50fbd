use Rattle.xm_stops.specs.Reasons.{is_leaving}
use Rattle.xm_stops.proofs.Draining.{entries-pending, held-left}
use Rattle.xm_stops.proofs.taking.take_leaving.Goals as goal

pub returns-clause-held : goal.returns-clause-held
returns-clause-held g c =
    held-left (is_leaving c.args.reason) c.args.queues.now c.drain.new.queues c.args.pending.now c.drain.new.pending c.drain.ensures.drained c.drain.ensures.all

pub returns-clause-pending : goal.returns-clause-pending
returns-clause-pending g c =
    entries-pending (is_leaving c.args.reason) c.args.queues.now c.drain.new.queues c.args.pending.now c.drain.new.pending c.drain.ensures.drained c.drain.ensures.all c.len.ensures.rise
    c.sort_behind.new.self c.sort_behind.ensures.room (rw c.len-waiting.ensures.len at c.sort_behind.ensures.sorted)

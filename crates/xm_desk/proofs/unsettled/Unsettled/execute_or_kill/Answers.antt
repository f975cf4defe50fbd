use Rattle.std.proofs.Common.{rules}
use Rattle.xm_events.proofs.Seeing.{immediate-seen}
use Rattle.xm_desk.proofs.unsettled.Unsettled.execute_or_kill.Goals as goal

pub returns-then-execute-gt0-clause-come : goal.returns-then-execute-gt0-clause-come
returns-then-execute-gt0-clause-come g c =
    let v = c.args.self.now in
    search (rules, immediate-seen v.seen v.state c.args.order.now)

use Rattle.std.proofs.Common.{rules}
use Rattle.xm_auction.specs.Allotment.{uncrossing_of}
use Rattle.xm_events.proofs.Seeing.{traded-seen}
use Rattle.xm_desk.proofs.unsettled.Unsettled.end_call.Goals as goal

pub returns-in-None-stage_after-clause-uncrossed : goal.returns-in-None-stage_after-clause-uncrossed
returns-in-None-stage_after-clause-uncrossed g c =
    let v = c.args.self.now in
    search (rules, traded-seen v.seen v.state (uncrossing_of c.args.auction c.args.stage v.state.orders c.in-Some.price c.in-Some.volume))

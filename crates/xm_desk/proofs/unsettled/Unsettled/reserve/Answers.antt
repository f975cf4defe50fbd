use Rattle.std.proofs.Common.{subst}
use Rattle.xm_desk.proofs.Actions.{CanDo, does}
use Rattle.xm_rules.proofs.Accepted.{accepted-below}
use Rattle.xm_desk.proofs.unsettled.Unsettled.reserve.Goals as goal

pub reserve_place-requires-clause-accepted : goal.reserve_place-requires-clause-accepted
reserve_place-requires-clause-accepted g c = accepted-below c.args.self.now.state c.args.accepted.now.command.value c.requires.accepted.lawful

pub reserve_place-requires-in-Replace-clause-accepted : goal.reserve_place-requires-in-Replace-clause-accepted
reserve_place-requires-in-Replace-clause-accepted g c = accepted-below c.args.self.now.state c.args.accepted.now.command.value c.requires.accepted.lawful

pub reserve_stop-requires-clause-accepted : goal.reserve_stop-requires-clause-accepted
reserve_stop-requires-clause-accepted g c = accepted-below c.args.self.now.state c.args.accepted.now.command.value c.requires.accepted.lawful

pub reserve_stop-requires-clause-trigger : goal.reserve_stop-requires-clause-trigger
reserve_stop-requires-clause-trigger g c =
    let s = c.args.self.now.state in
    let a = c.args.accepted.now in
    (subst (CanDo s) c.in-Hold.is (does s a.command.value a.action c.requires.accepted.lawful c.requires.accepted.does).can).trigger

pub reserve_trade-requires-clause-accepted : goal.reserve_trade-requires-clause-accepted
reserve_trade-requires-clause-accepted g c = accepted-below c.args.self.now.state c.args.accepted.now.command.value c.requires.accepted.lawful

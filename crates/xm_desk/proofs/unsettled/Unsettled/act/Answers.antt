use Rattle.std.proofs.Common.{◌≡◌, subst, rules, arith}
use Rattle.xm_desk.proofs.Actions.{Does, does}
use Rattle.xm_desk.proofs.Making.{makes-all_cancelled, makes-cancelled, makes-ended}
use Rattle.xm_desk.specs.Accepted.{IsAccepted}
use Rattle.xm_desk.specs.declared.accepted.Accepted.{Accepted}
use Rattle.xm_desk.specs.declared.accepted.Action.{Action}
use Rattle.xm_rules.proofs.Accepted.{accepted-below}
use Rattle.xm_rules.specs.State.{State}
use Rattle.xm_desk.proofs.unsettled.Unsettled.act.Goals as goal

-- what the checks found, of an action that is known
found : (s : State) (accepted : Accepted) (a : Action) → IsAccepted s accepted → accepted.action ≡ a → Does s accepted.command.value a
found s accepted a is e = subst (Does s accepted.command.value) e (does s accepted.command.value accepted.action is.lawful is.does)

pub enter-requires-clause-can : goal.enter-requires-clause-can
enter-requires-clause-can g c =
    let s = c.args.self.now.state in
    let can = (found s c.args.accepted.now _ c.requires.accepted c.in-Enter.is).can in
    let below = accepted-below s c.args.accepted.now.command.value c.requires.accepted.lawful in
    record {
      joins = record { ready = search rules; name = can.name; rest = can.rest; accepted = below };
      sweeps = omega (arith, c.requires.counted.sweeps, below);
    }

pub enter-requires-clause-immediate : goal.enter-requires-clause-immediate
enter-requires-clause-immediate g c = (found c.args.self.now.state c.args.accepted.now _ c.requires.accepted c.in-Enter.is).can.immediate

pub hold-requires-clause-name : goal.hold-requires-clause-name
hold-requires-clause-name g c = (found c.args.self.now.state c.args.accepted.now _ c.requires.accepted c.in-Hold.is).can.name

pub reduce-requires : goal.reduce-requires
reduce-requires g c = (found c.args.self.now.state c.args.accepted.now _ c.requires.accepted c.in-Reduce.is).can

pub replace-requires-clause-name : goal.replace-requires-clause-name
replace-requires-clause-name g c = (found c.args.self.now.state c.args.accepted.now _ c.requires.accepted c.in-Replace.is).can.name

pub replace-requires-clause-rest : goal.replace-requires-clause-rest
replace-requires-clause-rest g c = (found c.args.self.now.state c.args.accepted.now _ c.requires.accepted c.in-Replace.is).can.rest

pub replace-requires-clause-accepted : goal.replace-requires-clause-accepted
replace-requires-clause-accepted g c = accepted-below c.args.self.now.state c.args.accepted.now.command.value c.requires.accepted.lawful

pub replace-requires-clause-sweeps : goal.replace-requires-clause-sweeps
replace-requires-clause-sweeps g c =
    omega (arith, c.requires.counted.sweeps, accepted-below c.args.self.now.state c.args.accepted.now.command.value c.requires.accepted.lawful)

pub end_call-requires-clause-phase : goal.end_call-requires-clause-phase
end_call-requires-clause-phase g c = (found c.args.self.now.state c.args.accepted.now _ c.requires.accepted c.in-EndCall.is).can

pub end_call-requires-clause-sweeps : goal.end_call-requires-clause-sweeps
end_call-requires-clause-sweeps g c =
    omega (arith, c.requires.counted.sweeps, accepted-below c.args.self.now.state c.args.accepted.now.command.value c.requires.accepted.lawful)

pub returns-in-Cancel-clause-made : goal.returns-in-Cancel-clause-made
returns-in-Cancel-clause-made g c = makes-cancelled c.args.self.now c.cancel.new.self _ _ c.cancel.ensures

pub returns-in-CancelAll-clause-made : goal.returns-in-CancelAll-clause-made
returns-in-CancelAll-clause-made g c = makes-all_cancelled c.args.self.now c.cancel_all.new.self _ c.cancel_all.ensures

pub returns-in-EndDay-clause-made : goal.returns-in-EndDay-clause-made
returns-in-EndDay-clause-made g c = makes-ended c.args.self.now c.end_day.new.self c.end_day.ensures

pub returns-in-Enter-clause-acted : goal.returns-in-Enter-clause-acted
returns-in-Enter-clause-acted g c =
    let u = c.args.self.now in
    let does = found u.state c.args.accepted.now _ c.requires.accepted c.in-Enter.is in
    search (rules, does.same, does.told u.seen)

pub returns-in-Hold-clause-acted : goal.returns-in-Hold-clause-acted
returns-in-Hold-clause-acted g c =
    let u = c.args.self.now in
    let does = found u.state c.args.accepted.now _ c.requires.accepted c.in-Hold.is in
    search (rules, does.same, does.told u.seen)

pub returns-in-Reduce-clause-acted : goal.returns-in-Reduce-clause-acted
returns-in-Reduce-clause-acted g c =
    let u = c.args.self.now in
    let does = found u.state c.args.accepted.now _ c.requires.accepted c.in-Reduce.is in
    search (rules, does.same, does.told u.seen)

pub returns-in-Replace-clause-acted : goal.returns-in-Replace-clause-acted
returns-in-Replace-clause-acted g c =
    let u = c.args.self.now in
    let does = found u.state c.args.accepted.now _ c.requires.accepted c.in-Replace.is in
    search (rules, does.same, does.told u.seen)

pub returns-in-Cancel-clause-acted : goal.returns-in-Cancel-clause-acted
returns-in-Cancel-clause-acted g c =
    let u = c.args.self.now in
    let does = found u.state c.args.accepted.now _ c.requires.accepted c.in-Cancel.is in
    search (rules, does.same, does.told u.seen)

pub returns-in-CancelAll-clause-acted : goal.returns-in-CancelAll-clause-acted
returns-in-CancelAll-clause-acted g c =
    let u = c.args.self.now in
    let does = found u.state c.args.accepted.now _ c.requires.accepted c.in-CancelAll.is in
    search (rules, does.same, does.told u.seen)

pub returns-in-StartCall-clause-acted : goal.returns-in-StartCall-clause-acted
returns-in-StartCall-clause-acted g c =
    let u = c.args.self.now in
    let does = found u.state c.args.accepted.now _ c.requires.accepted c.in-StartCall.is in
    search (rules, does.same, does.told u.seen)

pub returns-in-EndCall-clause-acted : goal.returns-in-EndCall-clause-acted
returns-in-EndCall-clause-acted g c =
    let u = c.args.self.now in
    let does = found u.state c.args.accepted.now _ c.requires.accepted c.in-EndCall.is in
    search (rules, does.same, does.told u.seen)

pub returns-in-EndDay-clause-acted : goal.returns-in-EndDay-clause-acted
returns-in-EndDay-clause-acted g c =
    let u = c.args.self.now in
    let does = found u.state c.args.accepted.now _ c.requires.accepted c.in-EndDay.is in
    search (rules, does.same, does.told u.seen)

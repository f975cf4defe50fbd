use Rattle.std.proofs.Common.{◌∙◌}
use Rattle.std.proofs.lemmas.Result.{IfOk-weaker}
use Rattle.xm_events.specs.Life.{units_named}
use Rattle.xm_rules.specs.Step.{replay}
use Rattle.xm_stories.specs.declared.around.After.{After}
use Rattle.xm_stories.proofs.CanBeTold.{taken_can_be_told}
use Rattle.xm_stories.proofs.GivenPrices.{prices-given}
use Rattle.xm_stories.proofs.JustTaken.{just-taken}
use Rattle.xm_stories.proofs.desks.story_behind.Goals as goal

pub tell-requires-clause-prices : goal.tell-requires-clause-prices
tell-requires-clause-prices g c = prices-given (replay c.requires.0) c.args.command.now c.requires.1.accepted

pub tell-requires-clause-units : goal.tell-requires-clause-units
tell-requires-clause-units g c =
    let after : After = record { phase = c.phase.result; sweeps = c.sweeps.result; interruption = c.interruption.result } in
    taken_can_be_told c.requires.0 (λ m r. units_named (replay c.args.desk.now) m r) c.args.command.now c.args.before.now after _ _
    (just-taken c.args.desk.now c.args.command.now c.args.before.now c.args.first c.requires.0 c.requires.1 after c.trades.result.now c.deref.result.now c.sweeps.ensures.sweeps c.phase.ensures
    c.interruption.ensures (c.deref.ensures.value ∙ c.in_ok-triggered.ensures) c.trades.ensures.trades)

pub returns : goal.returns
returns g c =
    let after : After = record { phase = c.phase.result; sweeps = c.sweeps.result; interruption = c.interruption.result } in
    IfOk-weaker c.tell.result _ _
    (λ events is j it.
    is j
    (just-taken c.args.desk.now c.args.command.now c.args.before.now c.args.first j it after c.trades.result.now c.deref.result.now c.sweeps.ensures.sweeps c.phase.ensures
    c.interruption.ensures (c.deref.ensures.value ∙ c.in_ok-triggered.ensures) c.trades.ensures.trades)) c.tell.ensures.story

use Rattle.std.proofs.Common.{◌∙◌, ◌++◌, ap, sym, List}
use Rattle.xm_desk.proofs.Making.{new-made}
use Rattle.xm_desk.specs.Settled.{Settled, Unsettled}
use Rattle.xm_events.specs.Seen.{seen_of}
use Rattle.xm_rules.specs.State.{State}
use Rattle.xm_rules.specs.Step.{new_trades, step}
use Rattle.xm_rules.specs.declared.orders.Trade.{Trade}
use Rattle.xm_desk.specs.declared.unsettled.Ready.TheVariants.{Nothing}
use Rattle.xm_desk.proofs.unsettled.market.Market.step.Goals as goal

pub invariant_of-self : goal.invariant_of-self
invariant_of-self g c =
    record {
      pending = ap (λ (u : Unsettled). u.pending) c.step.ensures.stepped ∙ c.self.invariant.pending;
      counted = c.step.ensures.counted;
    }

pub returns-clause-state : goal.returns-clause-state
returns-clause-state g c =
    let before = ap (λ (m : Settled). m.state) c.self.view_is in
    ap (λ (u : Unsettled). let m : Settled = record { state = u.state; ready = u.ready; seen = u.seen } in m) c.step.ensures.stepped
    ∙ ap (λ (s : State). let m : Settled = record { state = step s c.args.accepted.now.command.value; ready = Nothing; seen = seen_of s c.args.accepted.now.command.value } in m) before

pub returns-clause-appended : goal.returns-clause-appended
returns-clause-appended g c =
    let v = c.self.inside.inside in
    let n = c.step.new.self in
    let made = c.step.ensures.made in
    made.appended
    ∙ ap (λ (ts : List Trade). v.state.trades ++ ts) (sym (new-made v n made))
    ∙ ap (λ (s : State). s.trades ++ new_trades s n.state) (ap (λ (m : Settled). m.state) c.self.view_is)

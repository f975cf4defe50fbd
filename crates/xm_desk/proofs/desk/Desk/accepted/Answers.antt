use Rattle.std.proofs.Common.{◌∙◌, ◌≡◌, List, ap, arith, length}
use Rattle.xm_rules.proofs.Journals.{journal_of, replay_from-accepted}
use Rattle.xm_rules.proofs.Opening.{opening-is}
use Rattle.xm_rules.specs.Opening.{opening}
use Rattle.xm_rules.specs.State.{State}
use Rattle.xm_rules.specs.Step.{Journal, replay}
use Rattle.xm_rules.specs.declared.commands.Command.{Command}
use Rattle.xm_rules.specs.declared.settings.DeskSettings.{DeskSettings}
use Rattle.xm_desk.proofs.desk.Desk.accepted.Goals as goal

-- as many as the journal has
counted : (settings : DeskSettings) (commands : List Command) → (replay (journal_of settings commands)).accepted ≡ length commands
unfolding replay
counted settings commands =
    let none : (opening settings).accepted ≡ 0 = ap (λ (s : State). s.accepted) (opening-is settings) in
    omega (arith, none, replay_from-accepted (opening settings) commands)

pub returns-clause-count : goal.returns-clause-count
returns-clause-count g c =
    let d = c.self.inside in
    c.accepted.ensures ∙ ap (λ (s : State). s.accepted) c.self.invariant.replayed ∙ counted d.market.state.settings (g.J.Journaling.commands d.journal)
    ∙ ap (λ (j : Journal). length j.commands) c.self.view_is

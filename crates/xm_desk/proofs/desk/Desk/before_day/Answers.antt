use Rattle.std.proofs.Common.{◌≡◌, ◌∙◌, List, [], ap, ap₂, sym}
use Rattle.xm_desk.specs.Settled.{Settled}
use Rattle.xm_rules.proofs.Journals.{is_lawful-opening, journal_of, replay-opening}
use Rattle.xm_rules.proofs.Opening.{opening-is, opening-settings}
use Rattle.xm_events.specs.Seen.{last_seen}
use Rattle.xm_rules.specs.State.{State}
use Rattle.xm_rules.specs.Step.{is_lawful, replay}
use Rattle.xm_rules.specs.declared.commands.Command.{Command}
use Rattle.xm_rules.specs.declared.orders.Trade.{Trade}
use Rattle.xm_rules.specs.declared.settings.DeskSettings.{DeskSettings}
use Rattle.xm_desk.proofs.Opens.{opens}
use Rattle.xm_desk.proofs.Recording.{recorded}
use Rattle.xm_desk.proofs.desk.Desk.before_day.Goals as goal

pub returns-clause-opened : goal.returns-clause-opened
returns-clause-opened g c =
    let own = ap (λ (m : Settled). m.state.settings) c.in_ok-open.ensures ∙ opening-settings c.args.settings in
    ap₂ (λ (s : DeskSettings) (commands : List Command). journal_of s commands) own c.requires

pub invariant_of-result : goal.invariant_of-result
invariant_of-result g c =
    let own = ap (λ (m : Settled). m.state.settings) c.in_ok-open.ensures ∙ opening-settings c.args.settings in
    let settings = c.args.settings in
    let fresh = c.in_ok-open.ensures in
    let journal : journal_of c.in_ok-open.field-0.state.settings (g.J.Journaling.commands c.args.journal) ≡ journal_of settings [] =
    ap₂ (λ (s : DeskSettings) (commands : List Command). journal_of s commands) own c.requires in
    let untraded : c.in_ok-open.field-0.state.trades ≡ [] = ap (λ (m : Settled). m.state.trades) fresh ∙ ap (λ (s : State). s.trades) (opening-is settings) in
    record {
      replayed = ap (λ (m : Settled). m.state) fresh ∙ sym (replay-opening settings) ∙ ap replay (sym journal);
      lawful = ap is_lawful journal ∙ is_lawful-opening settings (opens settings (sym c.open_fault.ensures ∙ c.in_default.is)).1;
      ready = ap (λ (m : Settled). m.ready) fresh;
      seen = ap (λ (m : Settled). m.seen) fresh ∙ ap last_seen (sym journal);
      positions = c.in_ok-positions.ensures ∙ ap₂ (λ (s : DeskSettings) (trades : List Trade). recorded s.members trades) (sym own) (sym untraded);
    }

use Rattle.std.proofs.Common.{◌∙◌, ap}
use Rattle.xm_rules.proofs.Journals.{carries, journal_of}
use Rattle.xm_rules.specs.Opening.{are_carriable}
use Rattle.xm_desk.proofs.desk.Desk.settings.Goals as goal

pub returns-clause-carriable : goal.returns-clause-carriable
returns-clause-carriable g c =
    let d = c.self.inside in
    ap are_carriable c.settings.ensures ∙ carries (journal_of d.market.state.settings (g.J.Journaling.commands d.journal)) c.self.invariant.lawful

use Rattle.std.proofs.Common.{ℕ, List, ◌++◌, append_assoc, ap, ◌∙◌}
use Rattle.xm_rules.specs.State.{ref1, ref2}
use Rattle.xm_rules.specs.Step.{replay}
use Rattle.xm_rules.specs.declared.phases.Phase.{Phase}
use Rattle.xm_rules.specs.declared.settings.DeskSettings.{DeskSettings}
use Rattle.xm_texts.specs.Statement.{name_at, references_line, security_line}
use Rattle.xm_texts.proofs.statements.push_heading.Goals as goal

pub returns : goal.returns
returns g c =
    let s = replay c.args.desk.now in
    let text = c.args.text.now.items in
    let name = name_at c.args.names.now.securities c.args.index in
    let line = security_line name s.phase in
    c.in_ok-push_references.ensures
    ∙ ap (λ (t : List ℕ). t ++ references_line c.settings.result.now.tick c.ref1.result c.ref2.result)
    (c.in_ok-push_security_line.ensures ∙ ap (λ (n : List ℕ). text ++ security_line n c.phase.result) c.security_name.ensures ∙ ap (λ (p : Phase). text ++ security_line name p) c.phase.ensures)
    ∙ ap (λ (settings : DeskSettings). (text ++ line) ++ references_line settings.tick c.ref1.result c.ref2.result) c.settings.ensures.kept
    ∙ ap (λ (p : ℕ). (text ++ line) ++ references_line s.settings.tick p c.ref2.result) c.ref1.ensures
    ∙ ap (λ (p : ℕ). (text ++ line) ++ references_line s.settings.tick (ref1 s) p) c.ref2.ensures
    ∙ append_assoc text line (references_line s.settings.tick (ref1 s) (ref2 s))

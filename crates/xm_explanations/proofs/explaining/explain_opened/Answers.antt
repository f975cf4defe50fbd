use Rattle.std.proofs.Common.{◌≡◌, ◌∙◌, List, ap, is_some, sym}
use Rattle.xm_explanations.proofs.Runs.{run-behind, some-fault}
use Rattle.xm_explanations.specs.Explained.{first_told, run_fault}
use Rattle.xm_explanations.specs.declared.mistaken.MistakenFile.{MistakenFile}
use Rattle.xm_explanations.proofs.explaining.explain_opened.Goals as goal

pub returns-then-is_mistaken : goal.returns-then-is_mistaken
returns-then-is_mistaken c =
    let d = c.args.day.now in
    let told : first_told c.push_rest.new.told.items ≡ run_fault d =
    c.in_ok-push_rest.ensures ∙ run-behind d c.args.config c.args.names c.in_ok-config.config (first_told c.open_carried.new.told.items) c.requires.segment c.in_ok-config.ensures in
    let some = some-fault (first_told c.push_rest.new.told.items) (ap (λ (ts : List MistakenFile). is_some (first_told ts)) (sym c.as_slice.ensures.value) ∙ sym c.if-is_mistaken.ensures) in
    (told, (some.0, sym told ∙ some.1))

use Rattle.std.proofs.Common.{◌∙◌, ◌++◌, List, ℕ, ap, subst}
use Rattle.std.proofs.lemmas.Result.{on_ok_weaker}
use Rattle.xm_calls.proofs.Telling.{block-told}
use Rattle.xm_reason_texts.specs.Blocks.{block}
use Rattle.xm_reasons.specs.Reasons.{AreReasons, HasReasons}
use Rattle.xm_rules.specs.Step.{replay}
use Rattle.xm_rules.specs.declared.settings.DeskSettings.{DeskSettings}
use Rattle.xm_calls.proofs.told.push_call.Goals as goal

pub returns-in-Plain : goal.returns-in-Plain
returns-in-Plain c =
    let s = replay c.args.desk.now in
    let reasons = c.in-Some.reasons in
    let are : AreReasons s reasons = subst (HasReasons s) c.in-Some.is c.in_ok-reasons.ensures in
    let tick = ap (λ (settings : DeskSettings). settings.tick) c.settings.ensures.kept in
    rw c.in-Plain.is (on_ok_weaker c.push_block.result
    (λ told. told ∙ ap (λ (more : List ℕ). c.args.text.now.items ++ more)
    ((λ i. block c.args.name.now (tick i) (c.from-number.ensures i) (c.moment_of-moment.ensures i) reasons) ∙ block-told c.args.name.now c.args.row.now s reasons are)) c.push_block.ensures)

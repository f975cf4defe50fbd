use Rattle.std.proofs.Common.{rules, ◌≡◌, ◌++◌, ◌∙◌, ℕ, List, Some, None, map, slice_get, ap}
use Rattle.xm_files.proofs.PassedErrors.{on_err}
use Rattle.xm_texts.specs.RowAnswers.{answer_line, with_text}
use Rattle.xm_rules.specs.Step.{replay}
use Rattle.xm_files.specs.RecordTexts.{texts_in}
use Rattle.xm_texts.proofs.answers.tell_answer.Goals as goal

pub returns-clause-told : goal.returns-clause-told
returns-clause-told g c =
    let row = c.args.row.now in
    let begun : Some c.in-Some.text.items ≡ c.args.lines.now = search rules in
    let own = c.text.ensures ∙ c.in_ok-read.ensures.read in
    let told = c.in_ok-push_answer.ensures
    ∙ ap (λ (text : List ℕ). c.in-Some.text.items ++ answer_line c.args.names.now row text c.args.answer.now (slice_get (map replay c.args.desks.now) row.security)) own in
    let line = answer_line c.args.names.now row (texts_in c.args.texts.now row.line) c.args.answer.now (slice_get (map replay c.args.desks.now) row.security) in
    ap Some told ∙ ap (with_text line) begun

pub returns-in_err-push_answer-clause-asked : goal.returns-in_err-push_answer-clause-asked
returns-in_err-push_answer-clause-asked g c =
    let begun : Some c.in-Some.text.items ≡ c.args.lines.now = search rules in
    on_err c.from_residual-in_err-push_answer.result (λ none. let bad : Some c.in-Some.text.items ≡ None = begun ∙ none in absurd (cc))

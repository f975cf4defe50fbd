use Rattle.std.proofs.Common.{rules, ◌≡◌, ◌<◌, ◌≤◌, ◌∙◌, Option, Some, None, length, map, slice_get, option_map, refl, ap, sym, arith}
use Rattle.std.proofs.lemmas.Option.{slice_get-map, slice_get_past, slice_get_read}
use Rattle.xm_files.proofs.PassedErrors.{on_err}
use Rattle.xm_texts.proofs.Tells.{with_text-nil}
use Rattle.xm_texts.specs.RowAnswers.{with_text}
use Rattle.xm_texts.specs.RowTrades.{trade_lines}
use Rattle.xm_rules.specs.State.{State}
use Rattle.xm_rules.specs.Step.{replay}
use Rattle.xm_files.specs.RecordTexts.{texts_in}
use Rattle.xm_texts.proofs.trades.tell_trades.Goals as goal

pub returns-then-index-desks-clause-told : goal.returns-then-index-desks-clause-told
returns-then-index-desks-clause-told g c =
    let desks = c.args.desks.now in
    let row = c.args.row.now in
    let past : length desks ≤ row.security = omega arith in
    let none : slice_get (map replay desks) row.security ≡ None = slice_get-map replay desks row.security ∙ ap (option_map replay) (slice_get_past desks row.security past) in
    let begun : Some c.in-Some.text.items ≡ c.args.lines.now = search rules in
    begun ∙ with_text-nil c.args.lines.now
    ∙ ap (λ (o : Option State). with_text (trade_lines c.args.names.now row (texts_in c.args.texts.now row.line) c.args.answer.now o) c.args.lines.now) (sym none)

pub returns-clause-told : goal.returns-clause-told
returns-clause-told g c =
    let desks = c.args.desks.now in
    let row = c.args.row.now in
    let desk = c.index-desks-index.result in
    let within : row.security < length desks = omega arith in
    let some = slice_get_read desks (length desks) row.security desk refl within c.index-desks-index.is in
    let mapped : slice_get (map replay desks) row.security ≡ Some (replay desk) = slice_get-map replay desks row.security ∙ ap (option_map replay) some in
    let begun : Some c.in-Some.text.items ≡ c.args.lines.now = search rules in
    let lines = λ (o : Option State). trade_lines c.args.names.now row (texts_in c.args.texts.now row.line) c.args.answer.now o in
    ap Some c.in_ok-push_trades.ensures.told ∙ ap (with_text (lines (Some (replay desk)))) begun ∙ ap (λ (o : Option State). with_text (lines o) c.args.lines.now) (sym mapped)

pub returns-in_err-push_trades-clause-asked : goal.returns-in_err-push_trades-clause-asked
returns-in_err-push_trades-clause-asked g c =
    let begun : Some c.in-Some.text.items ≡ c.args.lines.now = search rules in
    on_err c.from_residual.result (λ none. let bad : Some c.in-Some.text.items ≡ None = begun ∙ none in absurd (cc))

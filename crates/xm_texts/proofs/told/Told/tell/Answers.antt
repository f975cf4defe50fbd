use Rattle.std.proofs.Common.{◌∙◌, ℕ, List, ap, map, slice_get}
use Rattle.xm_files.proofs.PassedErrors.{on_err}
use Rattle.xm_texts.specs.RowAnswers.{with_text}
use Rattle.xm_texts.specs.RowTrades.{trade_lines}
use Rattle.xm_rules.specs.Step.{replay}
use Rattle.xm_texts.proofs.told.Told.tell.Goals as goal

pub returns-in_err-tell_answer-clause-asked : goal.returns-in_err-tell_answer-clause-asked
returns-in_err-tell_answer-clause-asked g c = on_err c.from_residual.result (λ nothing. c.in_err-tell_answer.ensures.asked nothing.answers)

pub returns-in_err-tell_trades-clause-asked : goal.returns-in_err-tell_trades-clause-asked
returns-in_err-tell_trades-clause-asked g c = on_err c.from_residual-in_err-tell_trades.result (λ nothing. c.in_err-tell_trades.ensures.asked nothing.trades)

pub returns-in_err-tell-clause-asked : goal.returns-in_err-tell-clause-asked
returns-in_err-tell-clause-asked g c = on_err c.from_residual-in_err-tell.result (λ nothing. c.in_err-tell.ensures.asked nothing.depth)

pub returns-clause-trades : goal.returns-clause-trades
returns-clause-trades g c =
    let row = c.args.row.now in
    c.in_ok-tell_trades.ensures.told
    ∙ ap (λ (by_number : ℕ → List ℕ). with_text (trade_lines c.args.names.now row (by_number row.line) c.args.answer.now (slice_get (map replay c.args.desks.now) row.security)) c.args.self.now.trades) c.tell_answer.ensures.texts

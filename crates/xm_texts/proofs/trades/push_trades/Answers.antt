use Rattle.std.proofs.Common.{◌++◌, ◌∙◌, ℕ, List, ap, sym}
use Rattle.std.proofs.lemmas.List.Folds.{flat_map-map}
use Rattle.std.specs.List.{flat_map}
use Rattle.xm_texts.proofs.Then.{ok-then}
use Rattle.xm_texts.specs.RowAnswers.{record_line}
use Rattle.xm_texts.specs.RowTrades.{trade_fields, trades_by}
use Rattle.xm_rules.specs.Step.{replay}
use Rattle.xm_rules.specs.declared.orders.Trade.{Trade}
use Rattle.xm_rules.specs.declared.settings.DeskSettings.{DeskSettings}
use Rattle.xm_files.specs.RecordTexts.{texts_in}
use Rattle.xm_texts.proofs.trades.push_trades.Goals as goal

pub returns-clause-told : goal.returns-clause-told
returns-clause-told g c =
    let names = c.args.names.now in
    let row = c.args.row.now in
    let state = replay c.args.desk.now in
    let trades = c.trades_by-trades.result.now in
    let tick = c.settings.result.now.tick in
    let own = texts_in c.args.texts.now row.line in
    let own_is = c.text.ensures ∙ c.in_ok-read.ensures.read in
    let tick_is = ap (λ (s : DeskSettings). s.tick) c.settings.ensures.kept in
    let trades_are = c.trades_by-trades.ensures ∙ ap (trades_by c.args.answer) c.trades.ensures.trades in
    let lines = λ (text : List ℕ) (n : ℕ) (ts : List Trade). flat_map (λ (t : Trade). record_line row text (trade_fields names row n t)) ts in
    let same = ap (λ (text : List ℕ). lines text tick trades) own_is
    ∙ ap (λ (n : ℕ). lines own n trades) tick_is
    ∙ ap (lines own state.settings.tick) trades_are
    ∙ sym (flat_map-map (record_line row own) (trade_fields names row state.settings.tick) (trades_by c.args.answer state.trades)) in
    ok-then c.push_lines.result c.push_lines.ensures (λ pushed. pushed ∙ ap (λ (more : List ℕ). c.args.text.now.items ++ more) same)

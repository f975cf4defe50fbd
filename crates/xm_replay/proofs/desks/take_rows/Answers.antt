use Rattle.std.proofs.Common.{◌∙◌, ◌<◌, ℕ, List, get_or, length, option_map, refl, ap, sym, arith}
use Rattle.std.proofs.lemmas.List.{take_all}
use Rattle.xm_config.proofs.Days.{rows-lack, rows-step}
use Rattle.xm_replay.proofs.OneRow.{count-same, telling-nothing, told-alike-more, took-same, took-silently}
use Rattle.xm_replay.specs.Taken.{TookRow}
use Rattle.xm_texts.proofs.Feeding.{fed-more, fed-nothing}
use Rattle.xm_texts.proofs.Tells.{told-more, with_text-nil}
use Rattle.xm_files.proofs.PassedErrors.{on_err}
use Rattle.xm_config.specs.Day.{Day as TheDay, after_rows, day_of}
use Rattle.xm_texts.specs.Feeds.{feed_after}
use Rattle.xm_texts.specs.RowAnswers.{answers_of, told_of, with_text}
use Rattle.xm_texts.specs.RowEvents.{events_of, told_events}
use Rattle.xm_texts.specs.RowTrades.{told_trades, trades_of}
use Rattle.xm_config.specs.declared.rows.Row.{Row}
use Rattle.xm_files.specs.RecordTexts.{texts_in}
use Rattle.xm_replay.proofs.desks.take_rows.Goals.{then-telling+in_ok-take_and_tell, else-telling+in_ok-take_row}
use Rattle.xm_replay.proofs.desks.take_rows.Goals as goal

pub loop-row-init : goal.loop-row-init
loop-row-init c = record {
  so_far = refl;
  answers = with_text-nil c.args.told.now.answers;
  trades = with_text-nil c.args.told.now.trades;
  events = with_text-nil c.args.told.now.events;
  depth = fed-nothing c.args.names.now (day_of c.args.desks.now c.args.before.accepted c.args.before.refused) c.args.told.now.depth;
  texts = refl;
  counted = omega arith;
}

pub loop-row-preserved : goal.loop-row-preserved
loop-row-preserved c =
    let rows = c.args.rows.now in
    let names = c.args.names.now in
    let texts = texts_in c.args.texts.now in
    let old = c.loop-row.report in
    let new = c.if-telling.report in
    let begun = day_of c.args.desks.now c.args.before.accepted c.args.before.refused in
    let so_far = day_of c.loop-row.desks old.accepted old.refused in
    let i = c.loop-row.row-index in
    let within : i < length rows = omega arith in
    let took : TookRow names (texts_in c.loop-row.texts) so_far (get_or rows i _) c.loop-row.told (day_of c.if-telling.desks new.accepted new.refused) c.if-telling.told = elim c.if-telling.branch [
      | then-telling+in_ok-take_and_tell w ↦ took-same names (texts_in c.loop-row.texts) so_far (get_or rows i _) c.loop-row.told _ _ _ _ _ _ w.desks-is w.report-is w.told-is w.in_ok-take_and_tell.ensures.taken
      | else-telling+in_ok-take_row w ↦ took-same names (texts_in c.loop-row.texts) so_far (get_or rows i _) c.loop-row.told _ _ _ _ _ _ w.desks-is w.report-is w.told-is
          (took-silently names (texts_in c.loop-row.texts) so_far (get_or rows i _) c.loop-row.told _ (record {
            answers = c.loop-row.invariant.answers ∙ ap (with_text _) (telling-nothing c.args.told.now (sym c.is_telling-telling.ensures ∙ w.if-telling.false)).answers;
            trades = c.loop-row.invariant.trades ∙ ap (with_text _) (telling-nothing c.args.told.now (sym c.is_telling-telling.ensures ∙ w.if-telling.false)).trades;
            events = c.loop-row.invariant.events ∙ ap (with_text _) (telling-nothing c.args.told.now (sym c.is_telling-telling.ensures ∙ w.if-telling.false)).events;
            depth = c.loop-row.invariant.depth ∙ ap (option_map _) (telling-nothing c.args.told.now (sym c.is_telling-telling.ensures ∙ w.if-telling.false)).depth;
          }) w.in_ok-take_row.ensures.taken)
    ] in
    let more = λ (told : (ℕ → List ℕ) → TheDay → Row → List ℕ). told-alike-more told (texts_in c.loop-row.texts) texts begun so_far rows i in
    record {
      so_far = rows-step begun c.loop-row.desks rows i _ old.accepted old.refused _ within c.loop-row.invariant.so_far (sym took.day_is);
      answers = more (told_of names) _ c.args.told.now.answers c.loop-row.told.answers _ within c.loop-row.invariant.texts c.loop-row.invariant.so_far c.loop-row.invariant.answers took.answers_are;
      trades = more (told_trades names) _ c.args.told.now.trades c.loop-row.told.trades _ within c.loop-row.invariant.texts c.loop-row.invariant.so_far c.loop-row.invariant.trades took.trades_are;
      events = told-more (told_events names) begun so_far rows i _ c.args.told.now.events c.loop-row.told.events _ within c.loop-row.invariant.so_far c.loop-row.invariant.events took.events_are;
      depth = fed-more names begun so_far rows i _ c.args.told.now.depth c.loop-row.told.depth _ within c.loop-row.invariant.so_far c.loop-row.invariant.depth took.depth_is;
      texts = elim c.if-telling.branch [
        | then-telling+in_ok-take_and_tell w ↦ ap texts_in w.texts-is ∙ w.take_and_tell.ensures.texts ∙ c.loop-row.invariant.texts
        | else-telling+in_ok-take_row w ↦ ap texts_in w.texts-is ∙ c.loop-row.invariant.texts
      ];
      counted = elim c.if-telling.branch [
        | then-telling+in_ok-take_and_tell w ↦ count-same new _ _ _ w.report-is w.in_ok-take_and_tell.ensures.counted (omega (arith, c.loop-row.invariant.counted))
        | else-telling+in_ok-take_row w ↦ count-same new _ _ _ w.report-is w.in_ok-take_row.ensures.counted (omega (arith, c.loop-row.invariant.counted))
      ];
    }

pub returns-in_err-take_and_tell-clause-texts : goal.returns-in_err-take_and_tell-clause-texts
returns-in_err-take_and_tell-clause-texts c = c.take_and_tell.ensures.texts ∙ c.loop-row.invariant.texts

pub returns-in_err-take_row-clause-memory : goal.returns-in_err-take_row-clause-memory
returns-in_err-take_row-clause-memory c =
    let rows = c.args.rows.now in
    let old = c.loop-row.report in
    let within : c.loop-row.row-index < length rows = omega arith in
    on_err c.from_residual-in_err-take_row.result
    (λ unasked. rows-lack (day_of c.args.desks.now c.args.before.accepted c.args.before.refused) c.loop-row.desks rows c.loop-row.row-index _ old.accepted old.refused within c.loop-row.invariant.so_far c.in_err-take_row.ensures.memory)

pub returns-clause-taken : goal.returns-clause-taken
returns-clause-taken c =
    let rows = c.args.rows.now in
    c.loop-row.invariant.so_far ∙ ap (after_rows (day_of c.args.desks.now c.args.before.accepted c.args.before.refused)) (take_all c.loop-row.row-index rows (omega arith))

pub returns-clause-answers : goal.returns-clause-answers
returns-clause-answers c =
    let rows = c.args.rows.now in
    c.loop-row.invariant.answers
    ∙ ap (λ (rs : List Row). with_text (answers_of c.args.names.now (texts_in c.args.texts.now) (day_of c.args.desks.now c.args.before.accepted c.args.before.refused) rs) c.args.told.now.answers) (take_all c.loop-row.row-index rows (omega arith))

pub returns-clause-trades : goal.returns-clause-trades
returns-clause-trades c =
    let rows = c.args.rows.now in
    c.loop-row.invariant.trades
    ∙ ap (λ (rs : List Row). with_text (trades_of c.args.names.now (texts_in c.args.texts.now) (day_of c.args.desks.now c.args.before.accepted c.args.before.refused) rs) c.args.told.now.trades) (take_all c.loop-row.row-index rows (omega arith))

pub returns-clause-events : goal.returns-clause-events
returns-clause-events c =
    let rows = c.args.rows.now in
    c.loop-row.invariant.events
    ∙ ap (λ (rs : List Row). with_text (events_of c.args.names.now (day_of c.args.desks.now c.args.before.accepted c.args.before.refused) rs) c.args.told.now.events) (take_all c.loop-row.row-index rows (omega arith))

pub returns-clause-depth : goal.returns-clause-depth
returns-clause-depth c =
    let rows = c.args.rows.now in
    c.loop-row.invariant.depth
    ∙ ap (λ (rs : List Row). option_map (feed_after c.args.names.now (day_of c.args.desks.now c.args.before.accepted c.args.before.refused) rs) c.args.told.now.depth) (take_all c.loop-row.row-index rows (omega arith))

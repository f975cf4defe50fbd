use Rattle.std.proofs.Common.{ℕ, Bool, List, ◌++◌, length, ap, sym, subst, ◌∙◌, arith}
use Rattle.std.proofs.lemmas.List.{length-append}
use Rattle.xm_rules.specs.Step.{Journal}
use Rattle.xm_config.proofs.Days.{after_rows-append, lacks-later, lent_back}
use Rattle.xm_replay.proofs.Taking.{if_memory}
use Rattle.xm_texts.proofs.Feeding.{feed-joined}
use Rattle.xm_texts.proofs.Tells.{told-alike, told-joined}
use Rattle.xm_replay.specs.Taken.{HasTaken}
use Rattle.xm_config.specs.Day.{Day, LacksMemoryAt, after_rows, day_of, opening_day}
use Rattle.xm_texts.specs.Feeds.{feed_of}
use Rattle.xm_texts.specs.RowAnswers.{answer_line, answers_header, answers_text, told_of, where_asked, with_text}
use Rattle.xm_texts.specs.RowEvents.{events_header, events_text, told_events}
use Rattle.xm_texts.specs.RowTrades.{told_trades, trade_lines, trades_header, trades_text}
use Rattle.xm_files.specs.RecordTexts.{texts_in}
use Rattle.xm_replay.proofs.desks.take_more.Goals as goal

pub returns-clause-taken : goal.returns-clause-taken
returns-clause-taken c = λ config asked texts taken agree has.
    let old = c.in_ok-desks.field-0 in
    let new = c.take_rows.new.desks in
    let names = c.args.names.now in
    let own = texts_in c.args.texts.now in
    let report = c.in_ok-report.report in
    let rows = c.args.rows.now in
    let before = subst (HasTaken asked names texts config taken) c.in_ok-desks.was has in
    let kept = c.take_rows.auto.desks ∙ ap length c.as_mut_slice.ensures.value in
    let lent = lent_back new old.desks.items old.desks.len kept old.desks.ok.0 in
    let day = ap (λ (js : List Journal). day_of js old.report.accepted old.report.refused) c.as_mut_slice.ensures.value ∙ before.day_is in
    let both = length-append taken rows in
    let counted = c.in_ok-report.ensures.counted in
    let count = before.all in
    record {
      sound = before.sound;
      each = ap length lent ∙ kept ∙ before.each;
      day_is = ap (λ (js : List Journal). day_of js report.accepted report.refused) lent
          ∙ c.in_ok-report.ensures.taken
          ∙ ap (λ (d : Day). after_rows d rows) day
          ∙ sym (after_rows-append (opening_day config) taken rows);
      all = omega (arith, both, counted, count);
      answers_are = told-joined asked.answers (told_of names texts) answers_header config taken rows _ _ _ before.answers_are day (c.in_ok-report.ensures.answers ∙ ap (λ (text : List ℕ). with_text text old.told.answers) (told-alike (answer_line names) texts own _ rows agree));
      trades_are = told-joined asked.trades (told_trades names texts) trades_header config taken rows _ _ _ before.trades_are day (c.in_ok-report.ensures.trades ∙ ap (λ (text : List ℕ). with_text text old.told.trades) (told-alike (trade_lines names) texts own _ rows agree));
      events_are = told-joined asked.events (told_events names) events_header config taken rows _ _ _ before.events_are day c.in_ok-report.ensures.events;
      depth_is = feed-joined asked.depth names config taken rows _ _ _ before.depth_is day c.in_ok-report.ensures.depth;
    }

pub returns-in_err-report-clause-taken : goal.returns-in_err-report-clause-taken
returns-in_err-report-clause-taken c = λ config asked texts taken agree has.
    let old = c.in_ok-desks.field-0 in
    let rows = c.args.rows.now in
    let names = c.args.names.now in
    let before = subst (HasTaken asked names texts config taken) c.in_ok-desks.was has in
    let day = ap (λ (js : List Journal). day_of js old.report.accepted old.report.refused) c.as_mut_slice.ensures.value ∙ before.day_is in
    let Lacks : Day → Type 0 = λ d. LacksMemoryAt d rows in
    if_memory asked names texts config (taken ++ rows) c.from_residual-in_err-report.result c.from_residual-in_err-report.ensures.1 before.sound
    (λ unasked. lacks-later (opening_day config) taken rows (subst Lacks day (c.in_err-report.ensures.memory (record {
      answers = before.answers_are ∙ ap (λ (b : Bool). where_asked b (answers_text names config texts taken)) unasked.answers;
      trades = before.trades_are ∙ ap (λ (b : Bool). where_asked b (trades_text names config texts taken)) unasked.trades;
      events = before.events_are ∙ ap (λ (b : Bool). where_asked b (events_text names config taken)) unasked.events;
      depth = before.depth_is ∙ ap (λ (b : Bool). where_asked b (feed_of names config taken)) unasked.depth;
    }))))

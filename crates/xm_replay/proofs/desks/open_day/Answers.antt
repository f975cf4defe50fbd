use Rattle.std.proofs.Common.{[], refl, length, map, ap, sym, ◌∙◌}
use Rattle.std.proofs.lemmas.List.{append-nil, length-map}
use Rattle.xm_config.proofs.Days.{day-opened}
use Rattle.xm_replay.proofs.Taking.{if_memory}
use Rattle.xm_texts.proofs.Feeding.{feed-begun}
use Rattle.xm_config.specs.Day.{Day}
use Rattle.xm_texts.specs.RowAnswers.{answers_header, where_asked}
use Rattle.xm_texts.specs.RowEvents.{events_header}
use Rattle.xm_texts.specs.RowTrades.{trades_header}
use Rattle.xm_rules.specs.Step.{replay}
use Rattle.xm_config.specs.Opening.{journal_of}
use Rattle.xm_replay.proofs.desks.open_day.Goals as goal

pub returns : goal.returns
returns c = λ names texts.
    let config = c.args.config.now in
    let opened = c.in_ok-desks.ensures.opened in
    record {
      sound = c.in_ok-desks.ensures.sound;
      each = ap length opened ∙ length-map config.securities (journal_of config);
      day_is = day-opened config c.in_ok-desks.desks.items opened;
      all = refl;
      answers_are = c.in_ok-told.ensures.answers ∙ ap (where_asked c.args.asked.answers) (sym (append-nil answers_header));
      trades_are = c.in_ok-told.ensures.trades ∙ ap (where_asked c.args.asked.trades) (sym (append-nil trades_header));
      events_are = c.in_ok-told.ensures.events ∙ ap (where_asked c.args.asked.events) (sym (append-nil events_header));
      depth_is = c.in_ok-told.ensures.depth ∙ ap (where_asked c.args.asked.depth) (feed-begun names config _ (ap (map replay) c.as_slice.ensures.value ∙ ap (λ (d : Day). d.states) (day-opened config c.in_ok-desks.desks.items opened)));
    }

pub returns-in_err-told : goal.returns-in_err-told
returns-in_err-told c = λ names texts.
    if_memory c.args.asked names texts c.args.config.now [] c.from_residual-in_err-told.result c.from_residual-in_err-told.ensures.1 c.in_ok-desks.ensures.sound
    (λ unasked. absurd (c.in_err-told.ensures.asked unasked))

use Rattle.std.proofs.Common.{◌≡◌, ◌+◌, option_map, take}
use Rattle.xm_config.specs.Day.{after_rows, day_of}
use Rattle.xm_texts.specs.Feeds.{feed_after}
use Rattle.xm_texts.specs.RowAnswers.{answers_of, with_text}
use Rattle.xm_texts.specs.RowEvents.{events_of}
use Rattle.xm_texts.specs.RowTrades.{trades_of}
use Rattle.xm_files.specs.RecordTexts.{texts_in}
use Rattle.xm_replay.proofs.desks.take_rows.Given as goal

abbrev pub invariant-loop-row : goal.invariant-loop-row
invariant-loop-row l = record {
  so_far : day_of l.desks l.report.accepted l.report.refused ≡ after_rows (day_of l.initial.desks l.fn.before.accepted l.fn.before.refused) (take l.row-index l.rows);
  answers : l.told.answers ≡ with_text (answers_of l.names (texts_in l.initial.texts) (day_of l.initial.desks l.fn.before.accepted l.fn.before.refused) (take l.row-index l.rows)) l.initial.told.answers;
  trades : l.told.trades ≡ with_text (trades_of l.names (texts_in l.initial.texts) (day_of l.initial.desks l.fn.before.accepted l.fn.before.refused) (take l.row-index l.rows)) l.initial.told.trades;
  events : l.told.events ≡ with_text (events_of l.names (day_of l.initial.desks l.fn.before.accepted l.fn.before.refused) (take l.row-index l.rows)) l.initial.told.events;
  depth : l.told.depth ≡ option_map (feed_after l.names (day_of l.initial.desks l.fn.before.accepted l.fn.before.refused) (take l.row-index l.rows)) l.initial.told.depth;
  texts : texts_in l.texts ≡ texts_in l.initial.texts;
  counted : l.report.accepted + l.report.refused ≡ l.fn.before.accepted + l.fn.before.refused + l.row-index;
}

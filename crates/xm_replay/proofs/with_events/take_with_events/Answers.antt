use Rattle.std.proofs.Common.{◌∙◌, map}
use Rattle.xm_files.specs.RecordTexts.{texts_in}
use Rattle.xm_replay.proofs.OneRow.{took-row}
use Rattle.xm_rules.specs.Step.{replay}
use Rattle.xm_replay.proofs.with_events.take_with_events.Goals as goal

pub returns-clause-taken : goal.returns-clause-taken
returns-clause-taken c =
    let old = c.args.report.now in
    let desks = c.answer_with_events.new.desks in
    let counted = c.counted.result in
    took-row c.args.names.now (texts_in c.args.texts.now) c.args.desks.now desks old.accepted old.refused counted.accepted counted.refused c.args.row.now c.in_ok-answer.answer c.args.told.now c.tell.new.self
    c.in_ok-answer.ensures.answer (c.in_ok-answer.ensures.taken old.accepted old.refused) (c.counted.ensures.counted (map replay desks)) c.in_ok-tell.ensures.answers c.in_ok-tell.ensures.trades
    (c.tell.ensures.events ∙ c.in_ok-answer.ensures.told old.accepted old.refused) c.in_ok-tell.ensures.depth

use Rattle.std.proofs.Common.{◌<◌, ◌∙◌, List, ℕ, Some, get_or, length, refl, ap, arith}
use Rattle.std.proofs.lemmas.Option.{slice_get_read}
use Rattle.std.proofs.lemmas.Result.{on_ok_weaker}
use Rattle.xm_replay.proofs.OneRow.{ok-both, taken-so, told-so}
use Rattle.xm_texts.specs.RowAnswers.{with_text}
use Rattle.xm_replay.proofs.with_events.answer_with_events.Goals as goal

pub returns-clause-taken : goal.returns-clause-taken
returns-clause-taken c =
    let desks = c.args.desks.now in
    let row = c.args.row.now in
    let found = c.index-desks-index.result in
    let desk = get_or desks row.security found in
    let within : row.security < length desks = omega arith in
    let is = slice_get_read desks (length desks) row.security found refl within c.index-desks-index.is ∙ ap Some c.index-desks-index.is in
    ok-both c.take_row.result _ _ (λ answer answers after accepted refused. taken-so desks row desk is c.take_row.new.desk answer accepted refused after answers) c.take_row.ensures.answer c.take_row.ensures.after

pub returns-clause-told : goal.returns-clause-told
returns-clause-told c =
    let desks = c.args.desks.now in
    let row = c.args.row.now in
    let found = c.index-desks-index.result in
    let desk = get_or desks row.security found in
    let within : row.security < length desks = omega arith in
    let is = slice_get_read desks (length desks) row.security found refl within c.index-desks-index.is ∙ ap Some c.index-desks-index.is in
    on_ok_weaker c.take_row.result
    (λ told accepted refused. told ∙ ap (λ (lines : List ℕ). with_text lines c.args.events.now) (told-so desks row desk is c.args.names.now accepted refused)) c.take_row.ensures.told

use Rattle.std.proofs.Common.{◌<◌, ◌∙◌, Some, get_or, length, refl, ap, arith}
use Rattle.std.proofs.lemmas.Option.{slice_get_read}
use Rattle.std.proofs.lemmas.Result.{on_err_weaker}
use Rattle.xm_replay.proofs.OneRow.{accepts-so, ok-both, taken-so}
use Rattle.xm_replay.proofs.desks.answer_row.Goals as goal

pub returns-clause-taken : goal.returns-clause-taken
returns-clause-taken c =
    let desks = c.args.desks.now in
    let row = c.args.row.now in
    let found = c.index-desks-index.result in
    let desk = get_or desks row.security found in
    let within : row.security < length desks = omega arith in
    let is = slice_get_read desks (length desks) row.security found refl within c.index-desks-index.is ∙ ap Some c.index-desks-index.is in
    ok-both c.answer.result _ _ (λ answer answers after accepted refused. taken-so desks row desk is c.answer.new.self answer accepted refused after answers) c.answer.ensures.answer c.answer.ensures.after

pub returns-clause-memory : goal.returns-clause-memory
returns-clause-memory c =
    let desks = c.args.desks.now in
    let row = c.args.row.now in
    let found = c.index-desks-index.result in
    let desk = get_or desks row.security found in
    let within : row.security < length desks = omega arith in
    let is = slice_get_read desks (length desks) row.security found refl within c.index-desks-index.is ∙ ap Some c.index-desks-index.is in
    on_err_weaker c.answer.result (λ passes accepted refused. accepts-so desks row desk is passes accepted refused) c.answer.ensures.memory

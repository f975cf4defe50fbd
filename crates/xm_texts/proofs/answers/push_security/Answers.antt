use Rattle.std.proofs.Common.{◌≡◌, ◌∙◌, ◌<◌, ◌≤◌, Some, None, length, map, slice_get, option_map, refl, ap, arith}
use Rattle.std.proofs.lemmas.Option.{slice_get-map, slice_get_past, slice_get_read}
use Rattle.xm_rules.specs.Step.{replay}
use Rattle.xm_texts.proofs.answers.push_security.Goals as goal

pub returns-then-index-desks : goal.returns-then-index-desks
returns-then-index-desks g c =
    let desks = c.args.desks.now in
    let security = c.args.row.now.security in
    let desk = c.index-desks-index.result in
    let within : security < length desks = omega arith in
    let some = slice_get_read desks (length desks) security desk refl within c.index-desks-index.is in
    let mapped : slice_get (map replay desks) security ≡ Some (replay desk) = slice_get-map replay desks security ∙ ap (option_map replay) some in
    rw mapped c.push_known.ensures

pub returns-else-index-desks : goal.returns-else-index-desks
returns-else-index-desks g c =
    let desks = c.args.desks.now in
    let security = c.args.row.now.security in
    let past : length desks ≤ security = omega arith in
    let mapped : slice_get (map replay desks) security ≡ None = slice_get-map replay desks security ∙ ap (option_map replay) (slice_get_past desks security past) in
    rw mapped c.push_unknown.ensures

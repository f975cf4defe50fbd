use Rattle.std.proofs.Common.{◌<◌, ◌++◌, List, length, map, arith, ap, ◌∙◌}
use Rattle.std.proofs.lemmas.List.{take_all}
use Rattle.xm_rules.specs.Step.{Journal, replay}
use Rattle.xm_texts.proofs.StatementLines.{each-more}
use Rattle.xm_texts.specs.Carry.{carry_header, left_text, lefts_text}
use Rattle.xm_texts.proofs.carry_file.carry_text.Goals as goal

pub loop-index-preserved : goal.loop-index-preserved
loop-index-preserved g c =
    let desks = c.args.desks.now in
    let i = c.loop-index.index in
    let within : i < length desks = omega arith in
    each-more (left_text c.args.names.now) carry_header _ _ desks i c.index-desks-index.result within c.index-desks-index.is c.loop-index.invariant c.in_ok-push_left.ensures

pub returns : goal.returns
returns g c =
    let desks = c.args.desks.now in
    let names = c.args.names.now in
    c.loop-index.invariant
    ∙ ap (λ (js : List Journal). carry_header ++ lefts_text names 0 (map replay js)) (take_all c.loop-index.index desks (omega (arith, c.requires)))

use Rattle.std.proofs.Common.{◌<◌, ◌+◌, length, ap, arith, ◌∙◌}
use Rattle.std.proofs.lemmas.List.{take_all}
use Rattle.std.proofs.lemmas.List.Sums.{sum_by_more, sum_by-take-le}
use Rattle.xm_replay.specs.Taken.{commands_in}
use Rattle.xm_rules.specs.Step.{Journal}
use Rattle.xm_threads.proofs.lanes.commands_in.Goals as goal

pub overflow_add-count : goal.overflow_add-count
overflow_add-count c =
    let desks = c.args.desks.now in
    let i = c.loop-desk.desk-index in
    let within : i < length desks = omega arith in
    let one = sum_by_more (λ (j : Journal). length j.commands) desks i c.desk-item.result within in
    let most = sum_by-take-le (λ (j : Journal). length j.commands) desks (i + 1) in
    omega (arith, c.loop-desk.invariant, one, most, c.requires, c.accepted-count.ensures.count, ap (λ (j : Journal). length j.commands) c.desk-item.is)

pub loop-desk-preserved : goal.loop-desk-preserved
loop-desk-preserved c =
    let desks = c.args.desks.now in
    let i = c.loop-desk.desk-index in
    let within : i < length desks = omega arith in
    let one = sum_by_more (λ (j : Journal). length j.commands) desks i c.desk-item.result within in
    omega (arith, c.loop-desk.invariant, one, c.accepted-count.ensures.count, ap (λ (j : Journal). length j.commands) c.desk-item.is)

pub returns : goal.returns
returns c = c.loop-desk.invariant ∙ ap commands_in (take_all c.loop-desk.desk-index c.args.desks.now (omega arith))

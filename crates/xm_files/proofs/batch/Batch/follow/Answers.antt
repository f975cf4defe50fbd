use Rattle.std.proofs.Common.{◌++◌, length, ap, ◌∙◌, arith}
use Rattle.xm_files.proofs.Batches.{earlier-more}
use Rattle.xm_files.specs.Batches.{earlier_rows, rows_so_far}
use Rattle.xm_files.proofs.batch.Batch.follow.Goals as goal

pub invariant_of-self : goal.invariant_of-self
invariant_of-self c =
    let all = earlier-more c.of.result c.of-2.result ∙ (λ i. earlier_rows (c.of-2.ensures i) ++ (c.of.ensures i).items) ∙ ap rows_so_far c.before-2.view_is in
    let count = ap length all in
    let cleared = ap length c.clear.ensures.items in
    let total = c.total-total.ensures.total in
    let few = c.total-total.ensures.few in
    record {
      counted = omega (arith, count, total);
      few = omega (arith, cleared, few);
    }

pub returns : goal.returns
returns c =
    let all = earlier-more c.of.result c.of-2.result ∙ (λ i. earlier_rows (c.of-2.ensures i) ++ (c.of.ensures i).items) ∙ ap rows_so_far c.before-2.view_is in
    λ i. record { earlier = all i; rows = c.clear.ensures.items i }

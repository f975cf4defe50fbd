use Rattle.std.proofs.Common.{◌++◌, length, ap, ◌∙◌, arith}
use Rattle.std.proofs.lemmas.List.{length-append}
use Rattle.xm_files.proofs.Batches.{earlier-more}
use Rattle.xm_files.specs.Batches.{earlier_rows, rows_so_far}
use Rattle.xm_files.proofs.batch.Batch.begin.Goals as goal

pub invariant_of-self : goal.invariant_of-self
invariant_of-self c =
    let earlier = c.of-2.ensures ∙ c.replace-earlier.ensures.value in
    let all = earlier-more c.of.result c.of-2.result ∙ (λ i. earlier_rows (earlier i) ++ (c.of.ensures i).items) in
    let count = ap length all in
    let both = length-append (earlier_rows c.self.inside.earlier) c.self.inside.rows.items in
    let cleared = ap length c.clear.ensures.items in
    let kept = c.self.invariant in
    record {
      counted = omega (arith, count, both, kept.counted, c.len.ensures);
      few = omega (arith, cleared, kept.few, c.len.ensures);
    }

pub returns : goal.returns
returns c =
    let earlier = c.of-2.ensures ∙ c.replace-earlier.ensures.value in
    let all = earlier-more c.of.result c.of-2.result ∙ (λ i. earlier_rows (earlier i) ++ (c.of.ensures i).items) ∙ ap rows_so_far c.self.view_is in
    λ i. record { earlier = all i; rows = c.clear.ensures.items i }

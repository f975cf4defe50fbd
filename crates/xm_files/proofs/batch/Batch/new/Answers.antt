use Rattle.std.proofs.Common.{length, sym, ap, arith}
use Rattle.xm_files.proofs.Batches.{earlier-nothing}
use Rattle.xm_files.proofs.batch.Batch.new.Goals as goal

pub invariant_of-result : goal.invariant_of-result
invariant_of-result c =
    let none = ap length c.new.ensures.items in
    record {
      counted = sym (ap length earlier-nothing);
      few = omega arith;
    }

pub returns : goal.returns
returns c = λ i. record { earlier = earlier-nothing i; rows = c.new.ensures.items i }

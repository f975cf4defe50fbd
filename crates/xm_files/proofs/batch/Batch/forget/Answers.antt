use Rattle.std.proofs.Common.{length, sym, ap, arith}
use Rattle.xm_files.proofs.Batches.{earlier-nothing}
use Rattle.xm_files.proofs.batch.Batch.forget.Goals as goal

pub invariant_of-self : goal.invariant_of-self
invariant_of-self c =
    let none = ap length c.clear.ensures.items in
    record {
      counted = sym (ap length earlier-nothing);
      few = omega (arith, none);
    }

pub returns : goal.returns
returns c = λ i. record { earlier = earlier-nothing i; rows = c.clear.ensures.items i }

use Rattle.std.proofs.Common.{length, sym, ap}
use Rattle.xm_book.proofs.Reserved.{held-nothing}
use Rattle.xm_book.proofs.places.Places.new.Goals as goal

pub invariant_of-result : goal.invariant_of-result
invariant_of-result c = sym (ap length held-nothing)

pub returns : goal.returns
returns c = held-nothing

use Rattle.std.proofs.Common.{ℕ, ◌*◌, ◌≤◌, subst}
use Rattle.xm_rules.specs.declared.totals.TheConstants.{MAX_TRADED_QUANTITY}
use Rattle.xm_segment.proofs.Lanes.{quantity-within}
use Rattle.xm_segment.specs.Ledgers.{quantity_in}
use Rattle.xm_segment.proofs.segment.Segment.answer.Goals as goal

pub returns-clause-within : goal.returns-clause-within
returns-clause-within g c =
    let sums = c.take-answer.new.seat.sums in
    subst (λ (lanes : ℕ). quantity_in sums ≤ lanes * MAX_TRADED_QUANTITY) c.number-2.ensures.lanes (quantity-within sums c.number-2.ensures.within)

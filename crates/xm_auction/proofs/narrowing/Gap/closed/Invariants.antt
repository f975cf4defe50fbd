use Rattle.std.proofs.Common.{◌≡◌}
use Rattle.xm_auction.specs.Narrowing.{IsGap, groups_left_of}
use Rattle.xm_auction.proofs.narrowing.Gap.closed.Given as goal

abbrev pub invariant-loop-phase : goal.invariant-loop-phase
invariant-loop-phase g l = record {
  market : l.gap.market ≡ l.self.market;
  width : l.gap.width ≡ l.self.width;
  kept : IsGap l.phase l.book.orders l.gap;
}

abbrev pub decreases-loop-phase : goal.decreases-loop-phase
decreases-loop-phase g l = groups_left_of l.gap

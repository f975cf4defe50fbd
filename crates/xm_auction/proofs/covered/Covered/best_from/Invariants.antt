use Rattle.std.proofs.Common.{◌≡◌, ◌+◌}
use Rattle.xm_auction.specs.Crossings.{IsCrossing}
use Rattle.xm_book.specs.Curves.{orders_left}
use Rattle.xm_auction.proofs.covered.Covered.best_from.Given as goal

abbrev pub invariant-loop : goal.invariant-loop
invariant-loop g l = record {
  side : l.crossing.own.side ≡ l.fn.own.side;
  kept : IsCrossing l.phase l.book.orders l.crossing.own l.crossing.other;
}

abbrev pub decreases-loop : goal.decreases-loop
decreases-loop g l =
    orders_left l.phase l.crossing.own.side l.crossing.own.limit l.book.orders + orders_left l.phase l.crossing.other.side l.crossing.other.limit l.book.orders

use Rattle.std.proofs.Common.{◌≡◌, ◌<◌, ℕ, Contains, true, false}
use Rattle.std.specs.Prelude.{IfSome}
use Rattle.xm_auction.specs.Depths.{depth_at, reaches_price}
use Rattle.xm_book.specs.Curves.{orders_left}
use Rattle.xm_rules.specs.Auction.{accepting, candidates}
use Rattle.xm_auction.proofs.depth.Depth.to_units.Given as goal

abbrev pub invariant-loop-depth : goal.invariant-loop-depth
invariant-loop-depth g l = record {
  side : l.depth.side ≡ l.self.side;
  depth : l.depth ≡ depth_at l.phase l.depth.side l.depth.limit l.book.orders;
  limit : IfSome l.depth.limit (Contains (candidates l.phase l.book.orders));
  before : (x : ℕ) → reaches_price l.depth.side l.depth.limit x ≡ false → reaches_price l.self.side l.self.limit x ≡ true → accepting l.phase l.book.orders l.depth.side x < l.units;
}

abbrev pub decreases-loop-depth : goal.decreases-loop-depth
decreases-loop-depth g l = orders_left l.phase l.depth.side l.depth.limit l.book.orders

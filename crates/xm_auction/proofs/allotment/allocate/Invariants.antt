use Rattle.std.proofs.Common.{◌≡◌}
use Rattle.xm_auction.specs.Allotment.{uncrossing_of}
use Rattle.xm_auction.proofs.Owners.{phase_of}
use Rattle.xm_auction.proofs.Progress.{Progress}
use Rattle.xm_book.specs.Queues.{best_order}
use Rattle.xm_rules.specs.declared.orders.Side.TheVariants.{Buy, Sell}
use Rattle.xm_auction.proofs.allotment.allocate.Given as goal

abbrev pub invariant-loop-left : goal.invariant-loop-left
invariant-loop-left g l = record {
  book : l.book ≡ record l.initial.book { orders = l.book.orders };
  buy : l.best_buy ≡ best_order (phase_of (uncrossing_of l.fn.auction l.fn.stage l.initial.book.orders l.price l.volume)) Buy l.book.orders;
  sell : l.best_sell ≡ best_order (phase_of (uncrossing_of l.fn.auction l.fn.stage l.initial.book.orders l.price l.volume)) Sell l.book.orders;
  progress : Progress (uncrossing_of l.fn.auction l.fn.stage l.initial.book.orders l.price l.volume) l.sweep l.left l.book.orders l.initial.trades.trades l.trades.trades l.initial.trades.room l.trades.room;
}

abbrev pub decreases-loop-left : goal.decreases-loop-left
decreases-loop-left g l = l.left

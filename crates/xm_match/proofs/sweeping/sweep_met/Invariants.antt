use Rattle.std.proofs.Common.{◌≡◌}
use Rattle.xm_match.specs.Meeting.{next_met, sweep_over, terms_of}
use Rattle.xm_match.proofs.Progress.{Progress}
use Rattle.xm_match.proofs.sweeping.sweep_met.Given as goal

abbrev pub invariant-loop-next : goal.invariant-loop-next
invariant-loop-next g l = record {
  book : l.book ≡ record l.initial.book { orders = l.book.orders };
  next : l.next ≡ next_met (terms_of (sweep_over l.initial.book.orders l.incoming l.fn.ref1 l.fn.ref2 l.widths)) l.rest l.book.orders;
  progress : Progress (sweep_over l.initial.book.orders l.incoming l.fn.ref1 l.fn.ref2 l.widths) l.number l.rest l.book.orders l.initial.trades.trades l.trades.trades l.initial.trades.room l.trades.room;
}

abbrev pub decreases-loop-next : goal.decreases-loop-next
decreases-loop-next g l = l.rest

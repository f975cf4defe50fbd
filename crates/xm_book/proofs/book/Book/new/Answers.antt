use Rattle.xm_book.specs.Indexed.{AreOrdersIndexed}
use Rattle.std.proofs.Common.{sym, subst}
use Rattle.xm_book.specs.Queued.{QueuedOrders}
use Rattle.xm_book.proofs.Indexing.{nothing-indexed}
use Rattle.xm_book.proofs.book.Book.new.Goals as goal

pub invariant_of-result : goal.invariant_of-result
invariant_of-result g c =
    subst (λ (v : QueuedOrders). AreOrdersIndexed v c.new-2.result) (sym c.new.ensures) (nothing-indexed c.new-2.result c.new-2.ensures.names)

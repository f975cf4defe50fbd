use Rattle.xm_book.proofs.Opening.{opened}
use Rattle.xm_book.proofs.order_queues.OrderQueues.new.Goals as goal

pub invariant_of-result : goal.invariant_of-result
invariant_of-result g c = rw (c.new-5.ensures, c.new-4.ensures, c.new.ensures) (opened c.new-2.result c.new-3.result c.new-3.ensures)

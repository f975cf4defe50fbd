use Rattle.xm_book.specs.Fronts.{has_worse}
use Rattle.xm_book.proofs.Merging.{best_of_four}
use Rattle.xm_book.proofs.order_queues.OrderQueues.limit_of_all.Goals as goal

pub returns : goal.returns
returns g c =
    let s = c.args.side in
    rw (c.better_of_two.ensures, c.better_of_two-early.ensures, c.better_of_two-late.ensures)
    (best_of_four c.args.phase s (has_worse s c.args.after.now) c.args.self.now.orders s c.limit_in-free.result c.limit_in-opening.result c.limit_in-auctions.result c.limit_in-closing.result
    c.limit_in-free.ensures c.limit_in-opening.ensures c.limit_in-auctions.ensures c.limit_in-closing.ensures)

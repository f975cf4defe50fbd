use Rattle.xm_book.specs.Fronts.{lies_within}
use Rattle.xm_book.proofs.Merging.{best_of_four}
use Rattle.xm_book.proofs.order_queues.OrderQueues.worst_within.Goals as goal
use Rattle.xm_rules.specs.Sides.{opposite}

pub returns : goal.returns
returns g c =
    rw (c.better_of_two.ensures, c.better_of_two-early.ensures, c.better_of_two-late.ensures, c.opposite.ensures, c.opposite-2.ensures, c.opposite-3.ensures)
    (best_of_four c.args.phase c.args.side (lies_within c.args.side c.args.bound) c.args.self.now.orders (opposite c.args.side)
    c.worst_in-free.result c.worst_in-opening.result c.worst_in-auctions.result c.worst_in-closing.result
    c.worst_in-free.ensures c.worst_in-opening.ensures c.worst_in-auctions.ensures c.worst_in-closing.ensures)

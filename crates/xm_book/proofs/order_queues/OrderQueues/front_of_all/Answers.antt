use Rattle.std.proofs.Common.{option_copied}
use Rattle.xm_book.specs.Fronts.{has_kind}
use Rattle.xm_book.proofs.Merging.{earliest_of_four}
use Rattle.xm_book.proofs.order_queues.OrderQueues.front_of_all.Goals as goal

pub returns : goal.returns
returns g c =
    rw (c.earlier_of_two.ensures, c.earlier_of_two-early.ensures, c.earlier_of_two-late.ensures)
    (earliest_of_four c.args.phase c.args.side (has_kind c.args.kind.now) c.args.self.now.orders (option_copied c.front_in-free.result) (option_copied c.front_in-opening.result)
    (option_copied c.front_in-auctions.result) (option_copied c.front_in-closing.result) c.front_in-free.ensures c.front_in-opening.ensures c.front_in-auctions.ensures c.front_in-closing.ensures)

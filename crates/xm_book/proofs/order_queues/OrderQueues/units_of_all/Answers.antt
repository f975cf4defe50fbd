use Rattle.std.proofs.Common.{◌+◌, ◌∙◌}
use Rattle.xm_book.proofs.LevelSums.{units-of-four}
use Rattle.xm_book.proofs.order_queues.OrderQueues.units_of_all.Goals as goal

pub returns : goal.returns
returns g c =
    (λ i. c.units_in-free.ensures.units i + c.units_in-opening.ensures.units i + c.units_in-auctions.ensures.units i + c.units_in-closing.ensures.units i)
    ∙ units-of-four c.args.phase c.args.side c.args.kind.now c.args.self.now.orders

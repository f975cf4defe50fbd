use Rattle.std.proofs.Common.{◌+◌, ◌*◌, ◌∙◌}
use Rattle.xm_book.proofs.LevelSums.{units-between-four}
use Rattle.xm_book.proofs.order_queues.OrderQueues.units_between.Goals as goal
use Rattle.xm_price_maps.specs.Sums.{places_of}

pub returns : goal.returns
returns g c =
    (λ i. c.units_between_in-free.ensures.units i + c.units_between_in-opening.ensures.units i + c.units_between_in-auctions.ensures.units i + c.units_between_in-closing.ensures.units i)
    ∙ units-between-four c.args.phase c.args.side (c.args.group * places_of c.args.width) (places_of c.args.width) c.args.self.now.orders

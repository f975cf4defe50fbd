use Rattle.std.proofs.Common.{option_copied}
use Rattle.xm_book.proofs.Heading.{limited-first}
use Rattle.xm_book.proofs.order_queues.OrderQueues.first_limited.Goals as goal

pub returns : goal.returns
returns g c =
    limited-first c.args.phase c.args.side c.args.self.now.orders c.args.after.now c.in_ok-limit.limit c.in_ok-limit.ensures (option_copied c.front.result) c.front.ensures

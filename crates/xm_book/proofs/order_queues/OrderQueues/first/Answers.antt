use Rattle.std.proofs.Common.{option_copied}
use Rattle.xm_book.proofs.Heading.{market-first, no-market}
use Rattle.xm_book.proofs.order_queues.OrderQueues.first.Goals as goal

pub returns-in-None-clause-first : goal.returns-in-None-clause-first
returns-in-None-clause-first g c =
    no-market c.args.phase c.args.side c.args.self.now.orders c.in-None.ensures (option_copied c.first_limited.result) c.first_limited.ensures

pub returns-in-Some-clause-first : goal.returns-in-Some-clause-first
returns-in-Some-clause-first g c =
    market-first c.args.phase c.args.side c.args.self.now.orders c.in-Some.entry.now c.in-Some.ensures

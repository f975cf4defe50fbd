use Rattle.std.proofs.Common.{None}
use Rattle.xm_book.proofs.Limited.{best-limit}
use Rattle.xm_book.proofs.book.Book.best_limit.Goals as goal

pub returns : goal.returns
returns g c =
    rw (← c.self.view_is) (best-limit c.args.phase c.args.side c.self.inside.queues.orders None c.limit_after.result c.limit_after.ensures)

use Rattle.xm_book.proofs.Limited.{worst-limit}
use Rattle.xm_book.proofs.book.Book.worst_within.Goals as goal

pub returns : goal.returns
returns g c =
    rw (← c.self.view_is) (worst-limit c.args.phase c.args.side c.self.inside.queues.orders c.args.bound c.worst_within.result c.worst_within.ensures)

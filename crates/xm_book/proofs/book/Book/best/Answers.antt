use Rattle.std.proofs.Common.{◌∙◌, option_copied}
use Rattle.xm_book.proofs.Priorities.{best-is}
use Rattle.xm_book.proofs.book.Book.best.Goals as goal

pub returns : goal.returns
returns g c =
    let q = c.self.inside.queues in
    rw (← c.self.view_is) (c.order_of.ensures ∙ best-is c.args.phase c.args.side q.orders q.adds c.first.ensures.rise (option_copied c.first.result) c.first.ensures.first)

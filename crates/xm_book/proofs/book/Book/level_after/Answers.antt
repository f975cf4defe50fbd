use Rattle.std.proofs.Common.{Some, None}
use Rattle.xm_book.proofs.Limited.{best-limit, level-none, level-there}
use Rattle.xm_book.proofs.book.Book.level_after.Goals as goal

pub returns-in_err-limit : goal.returns-in_err-limit
returns-in_err-limit g c =
    let xs = c.self.inside.queues.orders in
    rw (c.from_residual.ensures, ← c.self.view_is)
    (level-none c.args.phase c.args.side xs c.args.after (best-limit c.args.phase c.args.side xs c.args.after None c.in_err-limit.ensures))

pub returns : goal.returns
returns g c =
    let xs = c.self.inside.queues.orders in
    rw (← c.self.view_is)
    (level-there c.args.phase c.args.side xs c.args.after c.in_ok-limit.limit (best-limit c.args.phase c.args.side xs c.args.after (Some c.in_ok-limit.limit) c.in_ok-limit.ensures)
    c.units_at-units.result c.units_at-units.ensures)

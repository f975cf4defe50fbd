use Rattle.std.proofs.Common.{◌∙◌, ap, option_map}
use Rattle.xm_book.proofs.FirstKinds.{order-kind}
use Rattle.xm_book.proofs.Priorities.{best-is}
use Rattle.xm_book.proofs.book.Book.best_kind.Goals as goal
use Rattle.xm_rules.specs.declared.orders.Order.{Order}

pub returns : goal.returns
returns g c =
    let q = c.self.inside.queues in
    let first = c.first_kind.ensures.kind in
    rw (← c.self.view_is) (first.2 ∙ order-kind first.0 ∙ ap (option_map (λ (o : Order). o.kind)) (best-is c.args.phase c.args.side q.orders q.adds c.first_kind.ensures.rise first.0 first.1))

use Rattle.xm_slots.proofs.Naming.{items-kept}
use Rattle.std.proofs.Common.{ap, ◌∙◌}
use Rattle.xm_book.proofs.Indexing.{seen}
use Rattle.xm_rules.specs.Commands.{outlasts}
use Rattle.xm_rules.specs.declared.orders.Order.{Order}
use Rattle.xm_book.proofs.book.Book.remove_expired.Goals as goal

pub returns : goal.returns
returns g c =
    let b = c.self.inside in
    rw (← c.self.view_is)
    (ap seen c.drop_expired.ensures.left ∙ (λ i. record (seen b.queues) { orders = items-kept (λ (o : Order). outlasts c.args.today o.validity) b.queues.orders i }))

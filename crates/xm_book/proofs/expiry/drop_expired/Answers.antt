use Rattle.xm_book.proofs.Expiring.{indexed-left}
use Rattle.xm_book.proofs.expiry.drop_expired.Goals as goal

pub returns-clause-indexed : goal.returns-clause-indexed
returns-clause-indexed g c =
    rw c.drop_orders.ensures
    (indexed-left c.args.today c.args.queues.now c.args.names.now c.drop_names.new.names c.requires c.drop_names.ensures.names c.drop_names.ensures.reserved)

use Rattle.std.proofs.Common.{rules}
use Rattle.xm_book.specs.Expiry.{outlives}
use Rattle.xm_book.proofs.Expiring.{key-left}
use Rattle.xm_book.proofs.expiry.drop_names.Goals as goal

pub returns-clause-names : goal.returns-clause-names
returns-clause-names g c m r =
    key-left (outlives c.args.today) c.args.queues.now.orders c.requires.sound.names m r _ (λ key b says x there same. search rules) _ _ (c.requires.named m r) (c.retain.ensures.names m r)

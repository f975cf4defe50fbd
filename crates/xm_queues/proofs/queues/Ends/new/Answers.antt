use Rattle.xm_queues.proofs.Walks.{queue_nil}
use Rattle.xm_queues.proofs.queues.Ends.new.Goals as goal

pub returns : goal.returns
returns c = λ links. rw (c.none.ensures, c.none-2.ensures) (queue_nil links)

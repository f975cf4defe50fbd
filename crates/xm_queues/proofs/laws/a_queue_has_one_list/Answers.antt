use Rattle.xm_queues.proofs.Walks.{keys_of-is}
use Rattle.xm_queues.proofs.laws.a_queue_has_one_list.Goals as goal

pub returns : goal.returns
returns c = λ links ends keys q. keys_of-is links ends keys q

use Rattle.xm_queues.proofs.Apart.{shared_key}
use Rattle.xm_queues.proofs.laws.a_key_is_in_one_queue.Goals as goal

pub returns : goal.returns
returns c = λ links ends ends' keys keys' key q q' at at'. shared_key links ends ends' keys keys' key q q' at at'

use Rattle.std.proofs.Common.{◌∙◌}
use Rattle.xm_queues.proofs.Firsts.{front_is}
use Rattle.xm_queues.proofs.queues.Ends.front.Goals as goal

pub returns : goal.returns
returns c = λ links keys q. c.get.ensures ∙ front_is links c.args.self.now keys q

use Rattle.xm_desk.proofs.Sweeping.{rest-can-join}
use Rattle.xm_desk.proofs.unsettled.Unsettled.come.Goals as goal

pub join-requires-then-rest-gt0 : goal.join-requires-then-rest-gt0
join-requires-then-rest-gt0 g c =
    rest-can-join c.args.self.now c.execute-rest.new.self c.args.order.now c.execute-rest.result c.execute-rest.ensures.swept c.requires.joins c.execute-rest.ensures.rest c.if-rest-gt0.true

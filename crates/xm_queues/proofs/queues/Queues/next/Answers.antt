use Rattle.std.proofs.Common.{◌∙◌, ap}
use Rattle.xm_queues.proofs.Firsts.{read_link, behind_is}
use Rattle.xm_queues.specs.declared.links.Link.{Link}
use Rattle.xm_queues.proofs.queues.Queues.next.Goals as goal

pub returns : goal.returns
returns g c = λ ends ahead behind q.
    let read = read_link _ c.args.self.now c.args.key _ c.self.view_is c.requires c.index.ensures in
    c.get.ensures ∙ ap (λ (l : Link). l.next) read ∙ behind_is c.args.self.now ends c.args.key ahead behind q

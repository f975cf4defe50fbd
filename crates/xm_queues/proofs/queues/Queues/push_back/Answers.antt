use Rattle.std.proofs.Common.{length, ap, ◌∙◌, arith}
use Rattle.xm_queues.proofs.Changes.{push_last, push_others}
use Rattle.xm_queues.proofs.Walks.{lacks}
use Rattle.xm_queues.proofs.Firsts.{last_within}
use Rattle.xm_queues.proofs.queues.Queues.push_back.Goals as goal

pub some-joining-requires : goal.some-joining-requires
some-joining-requires g c = omega (arith, c.requires.room, c.self.invariant, ap length c.self.view_is)

pub lead_to-requires : goal.lead_to-requires
lead_to-requires g c =
    last_within c.args.self.now c.args.ends.now c.requires.queue.keys _ (c.self.inside.links.ok.0 ∙ ap length c.self.view_is) c.requires.queue.queue

pub returns-clause-last : goal.returns-clause-last
returns-clause-last g c = λ keys q.
    let absent = lacks c.args.self.now c.args.ends.now keys c.args.key q c.requires.queue in
    rw (c.lead_to.ensures.links, c.lead_to.ensures.first, c.some-joining.ensures, c.none.ensures, c.self.view_is)
    (push_last c.args.self.now c.args.ends.now keys c.args.key q c.requires.room absent)

pub returns-clause-others : goal.returns-clause-others
returns-clause-others g c = λ other keys keys' q q' apart absent.
    rw (c.lead_to.ensures.links, c.some-joining.ensures, c.none.ensures, c.self.view_is)
    (push_others c.args.self.now c.args.ends.now keys c.args.key q c.requires.room other keys' q' apart absent)

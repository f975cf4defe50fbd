use Rattle.std.proofs.Common.{◌∙◌, length, arith, ap, refl}
use Rattle.xm_queues.proofs.Changes.{key_within, unlink_left, unlink_others}
use Rattle.xm_queues.proofs.Walks.{has}
use Rattle.xm_queues.proofs.Firsts.{read_link, prev_within, next_within}
use Rattle.xm_queues.proofs.queues.Queues.unlink.Goals as goal

pub index-requires : goal.index-requires
index-requires g c =
    let room = key_within c.args.self.now c.args.ends.now c.requires.keys c.args.key c.requires.queue c.requires.member in
    omega (arith, c.self.inside.links.ok.0, ap length c.self.view_is)

pub lead_to-requires : goal.lead_to-requires
lead_to-requires g c =
    let room = key_within c.args.self.now c.args.ends.now c.requires.keys c.args.key c.requires.queue c.requires.member in
    let read = read_link _ c.args.self.now c.args.key _ c.self.view_is room c.index.ensures in
    rw read
    (prev_within c.args.self.now c.args.ends.now c.requires.keys c.args.key _ (c.self.inside.links.ok.0 ∙ ap length c.self.view_is) c.requires.queue c.requires.member)

pub lead_back-requires : goal.lead_back-requires
lead_back-requires g c =
    let room = key_within c.args.self.now c.args.ends.now c.requires.keys c.args.key c.requires.queue c.requires.member in
    let read = read_link _ c.args.self.now c.args.key _ c.self.view_is room c.index.ensures in
    rw read
    (next_within c.args.self.now c.args.ends.now c.requires.keys c.args.key _ (c.lead_to.ensures.len ∙ c.self.inside.links.ok.0 ∙ ap length c.self.view_is) c.requires.queue c.requires.member)

pub returns-clause-left : goal.returns-clause-left
returns-clause-left g c = λ keys q.
    let at = has c.args.self.now c.args.ends.now keys c.args.key q c.requires in
    let room = key_within c.args.self.now c.args.ends.now c.requires.keys c.args.key c.requires.queue c.requires.member in
    let read = read_link _ c.args.self.now c.args.key _ c.self.view_is room c.index.ensures in
    rw (c.lead_back.ensures.links, c.lead_back.ensures.last, c.lead_to.ensures.links, c.lead_to.ensures.first, c.self.view_is, read)
    (unlink_left c.args.self.now c.args.ends.now c.args.key keys q at)

pub returns-clause-others : goal.returns-clause-others
returns-clause-others g c = λ other keys keys' q q' apart.
    let at = has c.args.self.now c.args.ends.now keys c.args.key q c.requires in
    let room = key_within c.args.self.now c.args.ends.now c.requires.keys c.args.key c.requires.queue c.requires.member in
    let read = read_link _ c.args.self.now c.args.key _ c.self.view_is room c.index.ensures in
    rw (c.lead_back.ensures.links, c.lead_to.ensures.links, c.self.view_is, read)
    (unlink_others c.args.self.now c.args.ends.now c.args.key other keys keys' q at q' apart)

pub returns-clause-ends : goal.returns-clause-ends
returns-clause-ends g c =
    let room = key_within c.args.self.now c.args.ends.now c.requires.keys c.args.key c.requires.queue c.requires.member in
    let read = read_link _ c.args.self.now c.args.key _ c.self.view_is room c.index.ensures in
    rw (c.lead_back.ensures.last, c.lead_to.ensures.first, read) refl

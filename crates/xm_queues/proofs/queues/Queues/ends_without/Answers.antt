use Rattle.std.proofs.Common.{length, arith, ap, refl}
use Rattle.xm_queues.proofs.Changes.{key_within}
use Rattle.xm_queues.proofs.Firsts.{read_link}
use Rattle.xm_queues.proofs.queues.Queues.ends_without.Goals as goal

pub index-requires : goal.index-requires
index-requires g c =
    let room = key_within c.args.self.now c.args.ends.now c.requires.keys c.args.key c.requires.queue c.requires.member in
    omega (arith, c.self.inside.links.ok.0, ap length c.self.view_is)

pub returns : goal.returns
returns g c =
    let room = key_within c.args.self.now c.args.ends.now c.requires.keys c.args.key c.requires.queue c.requires.member in
    let read = read_link _ c.args.self.now c.args.key _ c.self.view_is room c.index.ensures in
    rw (c.after.ensures, c.after-2.ensures, read) refl

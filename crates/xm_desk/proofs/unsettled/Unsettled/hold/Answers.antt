use Rattle.std.proofs.Common.{◌∙◌, ap}
use Rattle.xm_desk.proofs.Frames.{holds}
use Rattle.xm_desk.specs.Settled.{Unsettled, came}
use Rattle.xm_desk.proofs.unsettled.Unsettled.hold.Goals as goal

pub add-requires-clause-room : goal.add-requires-clause-room
add-requires-clause-room g c =
    c.self.invariant.frame.stop c.args.stop.now (ap (λ (v : Unsettled). v.ready) c.self.view_is ∙ c.requires.ready)

pub invariant_of-self : goal.invariant_of-self
invariant_of-self g c =
    let u = c.self.inside in
    rw c.of.ensures (record {
      opening = c.self.invariant.opening;
      opens = c.self.invariant.opens;
      few = c.self.invariant.few;
      frame = holds (came u.settings u.accepted) u.book u.stops c.add.new.self u.pending u.tape.room u.ready.value c.args.stop.now (ap (λ (v : Unsettled). v.ready) c.self.view_is ∙ c.requires.ready) c.self.invariant.frame c.add.ensures;
    })

use Rattle.std.proofs.Common.{◌≡◌, ◌∙◌, ap, subst}
use Rattle.xm_book.specs.Places.{place_of}
use Rattle.xm_desk.proofs.Frames.{joins, kept-there}
use Rattle.xm_desk.specs.Frame.{IsFramed}
use Rattle.xm_desk.specs.Settled.{Unsettled, came}
use Rattle.xm_desk.specs.declared.unsettled.Ready.{Ready}
use Rattle.xm_desk.specs.declared.unsettled.Ready.TheVariants.{ForOrder}
use Rattle.xm_desk.proofs.unsettled.Unsettled.join.Goals as goal

pub add-requires-clause-reserved : goal.add-requires-clause-reserved
add-requires-clause-reserved g c =
    let u = c.self.inside in
    let ready : u.ready.value ≡ ForOrder (place_of c.args.order) = ap (λ (v : Unsettled). v.ready) c.self.view_is ∙ c.requires.ready in
    let framed = subst (λ (h : Ready). IsFramed (came u.settings u.accepted) u.book u.stops u.pending u.tape.room h) ready c.self.invariant.frame in
    kept-there u.book.reserved u.stops.stops u.pending.stops (place_of c.args.order) framed.reserved

pub invariant_of-self : goal.invariant_of-self
invariant_of-self g c =
    let u = c.self.inside in
    let ready : u.ready.value ≡ ForOrder (place_of c.args.order) = ap (λ (v : Unsettled). v.ready) c.self.view_is ∙ c.requires.ready in
    rw c.of.ensures (record {
      opening = c.self.invariant.opening;
      opens = c.self.invariant.opens;
      few = c.self.invariant.few;
      frame =
          joins (came u.settings u.accepted) u.stops u.pending u.book c.add.new.self u.tape.room u.ready.value (place_of c.args.order) c.args.order ready c.self.invariant.frame
          c.add.ensures.orders c.add.ensures.adds c.add.ensures.used;
    })

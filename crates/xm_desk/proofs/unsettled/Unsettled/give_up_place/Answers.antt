use Rattle.std.proofs.Common.{◌≡◌, ◌∙◌, ap, length, sym, subst, arith}
use Rattle.xm_book.specs.TimeList.{TimeList}
use Rattle.xm_desk.proofs.Frames.{gives-up, kept-there}
use Rattle.xm_desk.specs.Frame.{IsFramed}
use Rattle.xm_desk.specs.Settled.{Unsettled, came}
use Rattle.xm_desk.specs.declared.unsettled.Ready.{Ready}
use Rattle.xm_desk.specs.declared.unsettled.Ready.TheVariants.{ForOrder}
use Rattle.xm_desk.proofs.unsettled.Unsettled.give_up_place.Goals as goal

pub release-requires : goal.release-requires
release-requires g c =
    let u = c.self.inside in
    let ready : u.ready.value ≡ ForOrder c.args.place = ap (λ (v : Unsettled). v.ready) c.self.view_is ∙ c.requires in
    let framed = subst (λ (h : Ready). IsFramed (came u.settings u.accepted) u.book u.stops u.pending u.tape.room h) ready c.self.invariant.frame in
    kept-there u.book.reserved u.stops.stops u.pending.stops c.args.place framed.reserved

pub invariant_of-self : goal.invariant_of-self
invariant_of-self g c =
    let u = c.self.inside in
    let ready : u.ready.value ≡ ForOrder c.args.place = ap (λ (v : Unsettled). v.ready) c.self.view_is ∙ c.requires in
    let left = c.release.ensures.rest in
    let orders = ap (λ (l : TimeList). length l.orders) left in
    rw c.of.ensures (record {
      opening = c.self.invariant.opening;
      opens = c.self.invariant.opens;
      few = c.self.invariant.few;
      frame =
          gives-up (came u.settings u.accepted) u.stops u.pending u.book c.release.new.self u.tape.room u.tape.room u.ready.value c.args.place ready c.self.invariant.frame
          c.release.ensures.places (sym (ap (λ (l : TimeList). l.adds) left)) (omega (arith, orders)) (omega (arith, orders));
    })

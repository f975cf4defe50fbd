use Rattle.std.proofs.Common.{◌≡◌, ◌∙◌, List, ◌∷◌, sym, ap, subst, true}
use Rattle.std.specs.List.{list_any}
use Rattle.xm_book.specs.Places.{SamePlaces, place_of, same_place}
use Rattle.xm_book.specs.TimeList.{TimeList}
use Rattle.xm_book.specs.declared.places.Place.{Place}
use Rattle.xm_desk.specs.Settled.{came}
use Rattle.xm_desk.proofs.Frames.{stop-leaves}
use Rattle.xm_desk.proofs.Leaving.{found-taken, held-reserved, not-found, taken-length, taken-sums}
use Rattle.xm_desk.specs.Frame.{IsFramed}
use Rattle.xm_rules.specs.Orders.{removed_stop}
use Rattle.xm_rules.specs.declared.orders.Stop.{Stop}
use Rattle.xm_stops.specs.HeldStops.{HeldStops}
use Rattle.xm_desk.proofs.unsettled.Unsettled.cancel_stop.Goals as goal

pub release-requires : goal.release-requires
release-requires g c =
    let u = c.self.inside in
    let stop = c.in-Some.stop in
    let taken = found-taken c.args.member c.args.reference u.stops.stops stop c.len.ensures.names (sym c.remove.ensures.found ∙ c.in-Some.is) in
    let is = c.of.ensures ∙ ap place_of c.order_of_stop.ensures in
    subst (λ (p : Place). list_any (same_place p) u.book.reserved ≡ true) (sym is)
    (held-reserved (came u.settings u.accepted) u.book u.stops u.pending u.tape.room u.ready.value stop c.self.invariant.frame (removed_stop c.args.member c.args.reference u.stops.stops) taken)

pub invariant_of-self : goal.invariant_of-self
invariant_of-self g c =
    let u = c.self.inside in
    let stop = c.in-Some.stop in
    let left = removed_stop c.args.member c.args.reference u.stops.stops in
    let taken = found-taken c.args.member c.args.reference u.stops.stops stop c.len.ensures.names (sym c.remove.ensures.found ∙ c.in-Some.is) in
    let is = c.of.ensures ∙ ap place_of c.order_of_stop.ensures in
    let rest = c.release.ensures.rest in
    record {
      opening = c.self.invariant.opening;
      opens = c.self.invariant.opens;
      few = c.self.invariant.few;
      frame =
          subst (λ (h : HeldStops). IsFramed (came u.settings u.accepted) c.release.new.self h u.pending u.tape.room u.ready.value) (sym c.remove.ensures.left)
          (stop-leaves (came u.settings u.accepted) u.book c.release.new.self u.stops left u.pending u.tape.room u.ready.value stop c.self.invariant.frame
          (subst (λ (p : Place). SamePlaces u.book.reserved (p ∷ c.release.new.self.reserved)) is c.release.ensures.places) (sym (ap (λ (l : TimeList). l.orders) rest)) (sym (ap (λ (l : TimeList). l.adds) rest))
          (taken-sums stop u.stops.stops left taken) (taken-length stop u.stops.stops left taken));
    }

pub invariant_of-self-in_default : goal.invariant_of-self-in_default
invariant_of-self-in_default g c =
    let u = c.self.inside in
    let none = not-found c.args.member c.args.reference u.stops.stops (sym c.remove.ensures.found ∙ c.in_default.is) in
    let same = c.remove.ensures.left ∙ ap (λ (ss : List Stop). let h : HeldStops = record u.stops { stops = ss } in h) none in
    record {
      opening = c.self.invariant.opening;
      opens = c.self.invariant.opens;
      few = c.self.invariant.few;
      frame = subst (λ (h : HeldStops). IsFramed (came u.settings u.accepted) u.book h u.pending u.tape.room u.ready.value) (sym same) c.self.invariant.frame;
    }

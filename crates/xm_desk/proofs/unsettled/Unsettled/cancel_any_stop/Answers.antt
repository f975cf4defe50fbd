use Rattle.std.proofs.Common.{◌≡◌, ◌∙◌, ◌∷◌, Some, true, sym, ap, subst, rules, find}
use Rattle.std.specs.List.{list_any}
use Rattle.xm_book.specs.Places.{SamePlaces, place_of, same_place}
use Rattle.xm_book.specs.TimeList.{TimeList}
use Rattle.xm_book.specs.declared.places.Place.{Place}
use Rattle.xm_desk.specs.Settled.{came}
use Rattle.xm_desk.proofs.Frames.{stop-leaves}
use Rattle.xm_desk.proofs.Leaving.{found-taken, held-reserved, taken-length, taken-sums}
use Rattle.xm_desk.specs.Frame.{IsFramed}
use Rattle.xm_rules.specs.Orders.{is_stop_named, removed_stop}
use Rattle.xm_stops.specs.HeldStops.{HeldStops}
use Rattle.xm_desk.proofs.unsettled.Unsettled.cancel_any_stop.Goals as goal

pub release-requires : goal.release-requires
release-requires g c =
    let u = c.self.inside in
    let stop = c.in-Some.stop in
    let found : find (is_stop_named c.args.member stop.reference) u.stops.stops ≡ Some stop = search rules in
    let taken = found-taken c.args.member stop.reference u.stops.stops stop c.len.ensures.names found in
    let is = c.of.ensures ∙ ap place_of c.order_of_stop.ensures in
    subst (λ (p : Place). list_any (same_place p) u.book.reserved ≡ true) (sym is)
    (held-reserved (came u.settings u.accepted) u.book u.stops u.pending u.tape.room u.ready.value stop c.self.invariant.frame (removed_stop c.args.member stop.reference u.stops.stops) taken)

pub invariant_of-self-2 : goal.invariant_of-self-2
invariant_of-self-2 g c =
    let u = c.self.inside in
    let stop = c.in-Some.stop in
    let left = removed_stop c.args.member stop.reference u.stops.stops in
    let found : find (is_stop_named c.args.member stop.reference) u.stops.stops ≡ Some stop = search rules in
    let removed : c.remove_any.new.self ≡ record u.stops { stops = left } = search rules in
    let taken = found-taken c.args.member stop.reference u.stops.stops stop c.len.ensures.names found in
    let is = c.of.ensures ∙ ap place_of c.order_of_stop.ensures in
    let rest = c.release.ensures.rest in
    record {
      opening = c.self.invariant.opening;
      opens = c.self.invariant.opens;
      few = c.self.invariant.few;
      frame =
          subst (λ (h : HeldStops). IsFramed (came u.settings u.accepted) c.release.new.self h u.pending u.tape.room u.ready.value) (sym removed)
          (stop-leaves (came u.settings u.accepted) u.book c.release.new.self u.stops left u.pending u.tape.room u.ready.value stop c.self.invariant.frame
          (subst (λ (p : Place). SamePlaces u.book.reserved (p ∷ c.release.new.self.reserved)) is c.release.ensures.places) (sym (ap (λ (l : TimeList). l.orders) rest)) (sym (ap (λ (l : TimeList). l.adds) rest))
          (taken-sums stop u.stops.stops left taken) (taken-length stop u.stops.stops left taken));
    }

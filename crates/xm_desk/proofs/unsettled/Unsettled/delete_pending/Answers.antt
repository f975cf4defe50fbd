use Rattle.std.proofs.Common.{◌≡◌, ◌∙◌, ◌++◌, ◌∷◌, Option, drop, sym, ap, subst, true}
use Rattle.std.specs.List.{list_any}
use Rattle.std.specs.Option.{option_to_list}
use Rattle.xm_rules.specs.declared.orders.Stop.{Stop}
use Rattle.xm_book.specs.Places.{SamePlaces, place_of, same_place}
use Rattle.xm_book.specs.TimeList.{TimeList}
use Rattle.xm_book.specs.declared.places.Place.{Place}
use Rattle.xm_desk.specs.Settled.{came}
use Rattle.xm_desk.proofs.Frames.{pending-leaves}
use Rattle.xm_desk.proofs.Leaving.{pending-reserved}
use Rattle.xm_desk.specs.Frame.{IsFramed}
use Rattle.xm_stops.specs.HeldStops.{PendingStops}
use Rattle.xm_desk.proofs.unsettled.Unsettled.delete_pending.Goals as goal

pub release-requires : goal.release-requires
release-requires g c =
    let u = c.self.inside in
    let is = c.of.ensures ∙ ap place_of c.order_of_stop.ensures in
    subst (λ (p : Place). list_any (same_place p) u.book.reserved ≡ true) (sym is)
    (pending-reserved (came u.settings u.accepted) u.book u.stops u.pending u.tape.room u.ready.value c.in-Some.stop c.self.invariant.frame (sym c.pop.ensures.first ∙ c.in-Some.is))

pub invariant_of-self-2 : goal.invariant_of-self-2
invariant_of-self-2 g c =
    let u = c.self.inside in
    let is = c.of.ensures ∙ ap place_of c.order_of_stop.ensures in
    let rest = c.release.ensures.rest in
    let left : Option Stop → PendingStops = λ stop. record u.pending { stops = drop 1 u.pending.stops; gone = u.pending.gone ++ option_to_list stop } in
    record {
      opening = c.self.invariant.opening;
      opens = c.self.invariant.opens;
      few = c.self.invariant.few;
      frame =
          subst (λ (p : PendingStops). IsFramed (came u.settings u.accepted) c.release.new.self u.stops p u.tape.room u.ready.value) (sym (c.pop.ensures.rest ∙ ap left c.in-Some.is))
          (pending-leaves (came u.settings u.accepted) u.book u.stops u.pending u.tape.room c.in-Some.stop (sym c.pop.ensures.first ∙ c.in-Some.is) c.release.new.self u.ready.value c.self.invariant.frame
          (subst (λ (p : Place). SamePlaces u.book.reserved (p ∷ c.release.new.self.reserved)) is c.release.ensures.places) (sym (ap (λ (l : TimeList). l.orders) rest)) (sym (ap (λ (l : TimeList). l.adds) rest)));
    }

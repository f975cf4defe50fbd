use Rattle.std.proofs.Common.{◌∙◌, ◌++◌, Option, Some, drop, sym, ap, subst}
use Rattle.std.specs.Option.{option_to_list}
use Rattle.xm_rules.specs.declared.orders.Stop.{Stop}
use Rattle.xm_book.specs.Places.{place_of}
use Rattle.xm_book.specs.declared.places.Place.{Place}
use Rattle.xm_desk.proofs.Frames.{comes-next}
use Rattle.xm_desk.specs.Frame.{IsFramed}
use Rattle.xm_desk.specs.Settled.{Unsettled, places_in, came}
use Rattle.xm_desk.specs.declared.unsettled.Ready.TheVariants.{ForOrder}
use Rattle.xm_stops.specs.HeldStops.{PendingStops}
use Rattle.xm_desk.proofs.unsettled.Unsettled.next_pending.Goals as goal

pub invariant_of-self-2 : goal.invariant_of-self-2
invariant_of-self-2 g c =
    let u = c.self.inside in
    let is = c.of.ensures ∙ ap place_of c.order_of_stop.ensures in
    let none = ap (λ (v : Unsettled). places_in v.ready) c.self.view_is ∙ c.requires in
    let framed = comes-next (came u.settings u.accepted) u.book u.stops u.pending u.tape.room c.in_ok-stop.stop (sym c.pop.ensures.first ∙ c.in_ok-stop.was) u.ready.value none c.self.invariant.frame in
    let left : Option Stop → PendingStops = λ stop. record u.pending { stops = drop 1 u.pending.stops; gone = u.pending.gone ++ option_to_list stop } in
    let popped = c.pop.ensures.rest ∙ ap left (c.in_ok-stop.was) in
    rw c.of-2.ensures (record {
      opening = c.self.invariant.opening;
      opens = c.self.invariant.opens;
      few = c.self.invariant.few;
      frame =
          subst (λ (p : PendingStops). IsFramed (came u.settings u.accepted) u.book u.stops p u.tape.room (ForOrder c.of.result)) (sym popped)
          (subst (λ (p : Place). IsFramed (came u.settings u.accepted) u.book u.stops (left (Some c.in_ok-stop.stop)) u.tape.room (ForOrder p)) (sym is) framed);
    })

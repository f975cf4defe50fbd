use Rattle.std.proofs.Common.{◌≡◌, ◌∙◌, ◌++◌, ◌∷◌, [], List, length, subst, sym, ap}
use Rattle.xm_book.specs.Places.{SamePlaces, place_of}
use Rattle.xm_book.specs.TimeList.{TimeList}
use Rattle.xm_book.specs.declared.places.Place.{Place}
use Rattle.xm_rules.specs.declared.orders.Order.{Order}
use Rattle.xm_rules.specs.declared.orders.Stop.{Stop}
use Rattle.xm_stops.specs.HeldStops.{HeldStops}
use Rattle.xm_desk.proofs.Entering.{more-held}
use Rattle.xm_desk.specs.Frame.{places_of_stops}
use Rattle.xm_desk.specs.Settled.{place_of_stop}
use Rattle.xm_desk.proofs.open_entries.OpenEntries.hold.Goals as goal

pub invariant_of-self-2 : goal.invariant_of-self-2
invariant_of-self-2 g c =
    let old = c.self.inside.book in
    let held = c.self.inside.stops.stops in
    let stop = c.args.stop.now in
    let ready = c.in_ok-reserve_for.ensures.ok in
    let places = c.reserve_for.new.self.reserved in
    let place : c.of.result ≡ place_of_stop stop = c.of.ensures ∙ ap (λ (o : Order). place_of o) c.order_of_stop.ensures in
    let stops : c.add.new.self.stops ≡ held ++ stop ∷ [] =
    ap (λ (h : HeldStops). h.stops) c.add.ensures ∙ ap (λ (h : HeldStops). h.stops ++ stop ∷ []) c.in_ok-reserve_one.ensures.ok in
    record {
      reserved =
          subst (λ (ss : List Stop). SamePlaces places (places_of_stops ss)) (sym stops)
          (more-held held stop old.reserved places c.self.invariant.reserved (subst (λ (p : Place). SamePlaces places (p ∷ old.reserved)) place ready.places));
      adds = ap (λ (l : TimeList). l.adds) ready.rest ∙ c.self.invariant.adds ∙ sym (ap (λ (l : TimeList). length l.orders) ready.rest);
    }

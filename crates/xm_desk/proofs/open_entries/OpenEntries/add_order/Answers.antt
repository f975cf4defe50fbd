use Rattle.std.proofs.Common.{◌≡◌, ◌∷◌, [], List, length, subst, true, ap, arith}
use Rattle.std.specs.List.{list_any}
use Rattle.std.proofs.lemmas.List.{length-append}
use Rattle.xm_book.specs.Places.{SamePlaces, same_place}
use Rattle.xm_book.specs.TimeList.{TimeList}
use Rattle.xm_book.specs.declared.places.Place.{Place}
use Rattle.xm_rules.specs.declared.orders.Order.{Order}
use Rattle.xm_desk.proofs.Entering.{reserved-there, same-after}
use Rattle.xm_desk.specs.Frame.{places_of_stops}
use Rattle.xm_desk.proofs.open_entries.OpenEntries.add_order.Goals as goal

pub add-requires-clause-reserved : goal.add-requires-clause-reserved
add-requires-clause-reserved g c =
    let ready = c.in_ok-reserve_for.ensures.ok in
    let places = c.reserve_for.new.self.reserved in
    subst (λ (p : Place). list_any (same_place p) places ≡ true) c.of.ensures (reserved-there places c.self.inside.book.reserved c.of.result ready.places)

pub invariant_of-self-2 : goal.invariant_of-self-2
invariant_of-self-2 g c =
    let old = c.self.inside.book in
    let new = c.add.new.self in
    let ready = c.in_ok-reserve_for.ensures.ok in
    let between = c.reserve_for.new.self in
    record {
      reserved =
          same-after (places_of_stops c.self.inside.stops.stops) old.reserved between.reserved new.reserved _ c.self.invariant.reserved
          (subst (λ (p : Place). SamePlaces between.reserved (p ∷ old.reserved)) c.of.ensures ready.places) c.add.ensures.used;
      adds = omega (
        arith,
        c.add.ensures.adds,
        c.self.invariant.adds,
        ap (λ (l : TimeList). l.adds) ready.rest,
        ap (λ (l : TimeList). length l.orders) ready.rest,
        ap (λ (os : List Order). length os) c.add.ensures.orders,
        length-append between.orders (c.args.order ∷ []),
      );
    }

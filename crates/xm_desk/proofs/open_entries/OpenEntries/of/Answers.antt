use Rattle.std.proofs.Common.{◌≡◌, ◌∙◌, ◌++◌, Bool, true, not, List, All, count_by, filter, length, map, refl, subst, sym, ap, ap₂, arith}
use Rattle.std.proofs.lemmas.List.Elements.{All-weaker}
use Rattle.std.proofs.lemmas.List.Filters.{length-filter_both}
use Rattle.xm_rules.proofs.CarriedEntries.{CanBeCarried, CanBeHeld, carriable-parts, used_once}
use Rattle.xm_rules.proofs.OneName.{named}
use Rattle.xm_rules.proofs.Opening.{opening-is}
use Rattle.xm_rules.proofs.SettledSums.{part}
use Rattle.xm_rules.specs.Commands.{is_in_range}
use Rattle.xm_rules.specs.Entries.{Entries}
use Rattle.xm_rules.specs.Opening.{is_still_valid}
use Rattle.xm_rules.specs.Orders.{is_named, is_stop_named}
use Rattle.xm_rules.specs.Settling.{is_reached, order_of_stop}
use Rattle.xm_rules.specs.State.{State}
use Rattle.xm_rules.specs.declared.orders.Order.{Order}
use Rattle.xm_rules.specs.declared.orders.Stop.{Stop}
use Rattle.xm_desk.proofs.open_entries.OpenEntries.of.Given.{Over}
use Rattle.xm_desk.proofs.open_entries.OpenEntries.of.Goals as goal

pub invariant_of-entries : goal.invariant_of-entries
invariant_of-entries g c = rw (c.new.ensures, c.new-2.ensures) (record { reserved = record { length = refl; counts = λ p. refl }; adds = refl })

pub add_orders-requires-clause-names : goal.add_orders-requires-clause-names
add_orders-requires-clause-names g c = λ m r.
    omega (arith, used_once m r c.args.settings.now c.requires, ap (λ (os : List Order). count_by (is_named m r) os) c.orders.ensures)

pub add_orders-requires-clause-units : goal.add_orders-requires-clause-units
add_orders-requires-clause-units g c =
    let s = c.args.settings.now in
    let units : Order → Type 0 = λ o. is_in_range o.rest ≡ true in
    subst (λ (os : List Order). All units os) (sym c.orders.ensures)
    (All-weaker (CanBeCarried s.members) units (λ o can. can.units) s.carried.orders (carriable-parts s c.requires).orders)

pub add_orders-requires-clause-few : goal.add_orders-requires-clause-few
add_orders-requires-clause-few g c =
    omega (arith, (carriable-parts c.args.settings.now c.requires).few, ap (λ (os : List Order). length os) c.orders.ensures)

-- the orders that joined are some of those that were carried
joined : (g : Over) (c : goal.After-add_stops-arg-1 g) → (let s = c.args.settings.now in
    c.add_orders.new.self.orders ≡ filter (λ (o : Order). is_still_valid s.today o.validity) s.carried.orders)
joined g c =
    let s = c.args.settings.now in
    ap (λ (e : Entries). e.orders) c.in_ok-add_orders.ensures ∙ ap (filter (λ (o : Order). is_still_valid s.today o.validity)) c.orders.ensures

pub add_stops-requires-clause-names : goal.add_stops-requires-clause-names
add_stops-requires-clause-names g c = λ m r.
    let s = c.args.settings.now in
    omega (
      arith,
      used_once m r s c.requires,
      ap (λ (os : List Order). count_by (is_named m r) os) (joined g c),
      part (named m r) (λ (o : Order). is_still_valid s.today o.validity) s.carried.orders,
      ap (λ (ss : List Stop). count_by (is_stop_named m r) ss) c.stops.ensures,
    )

pub add_stops-requires-clause-units : goal.add_stops-requires-clause-units
add_stops-requires-clause-units g c =
    let s = c.args.settings.now in
    let units : Stop → Type 0 = λ x. is_in_range x.quantity ≡ true in
    subst (λ (ss : List Stop). All units ss) (sym c.stops.ensures)
    (All-weaker (CanBeHeld s.members) units (λ x can. can.order.units) s.carried.stops (carriable-parts s c.requires).stops)

pub add_stops-requires-clause-few : goal.add_stops-requires-clause-few
add_stops-requires-clause-few g c =
    let s = c.args.settings.now in
    let valid : Order → Bool = λ o. is_still_valid s.today o.validity in
    omega (
      arith,
      (carriable-parts s c.requires).few,
      ap (λ (os : List Order). length os) (joined g c),
      length-filter_both valid (λ (o : Order). not (valid o)) (λ o. refl) s.carried.orders,
      ap (λ (ss : List Stop). length ss) c.stops.ensures,
    )

pub returns : goal.returns
returns g c =
    let s = c.args.settings.now in
    let with_stops : List Order → List Stop → Entries = λ orders stops.
    (let valid = filter (λ (x : Stop). is_still_valid s.today x.validity) stops in
    record {
      orders = orders ++ map order_of_stop (filter (is_reached s.reference) valid);
      stops = filter (λ (x : Stop). not (is_reached s.reference x)) valid;
    }) in
    c.in_ok-add_stops.ensures ∙ ap₂ with_stops (ap (λ (e : Entries). e.orders) c.in_ok-add_orders.ensures ∙ ap (filter (λ (o : Order). is_still_valid s.today o.validity)) c.orders.ensures) c.stops.ensures
    ∙ ap (λ (t : State). let e : Entries = record { orders = t.orders; stops = t.stops } in e) (sym (opening-is s))

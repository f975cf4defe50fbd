use Rattle.std.proofs.Common.{◌∙◌, ◌++◌, Bool, not, List, filter, length, length-append, map, take, refl, ap, ap₂, arith}
use Rattle.std.specs.List.{list_any}
use Rattle.std.proofs.lemmas.List.{length-map, take_all}
use Rattle.std.proofs.lemmas.List.Filters.{length-filter_both}
use Rattle.xm_rules.specs.Entries.{Entries}
use Rattle.xm_rules.specs.Opening.{is_still_valid}
use Rattle.xm_rules.specs.Orders.{is_named, is_stop_named}
use Rattle.xm_rules.specs.Settling.{is_reached, order_of_stop}
use Rattle.xm_rules.specs.declared.orders.Order.{Order}
use Rattle.xm_rules.specs.declared.orders.Stop.{Stop}
use Rattle.xm_desk.proofs.Entering.{few-taken, held-new, stop-new}
use Rattle.xm_desk.proofs.open_entries.OpenEntries.add_stops.Goals as goal

pub add_stop-requires-clause-name : goal.add_stop-requires-clause-name
add_stop-requires-clause-name g c =
    let stops = c.args.stops.now in
    let i = c.loop-stop.stop-index in
    let valid : Stop → Bool = λ s. is_still_valid c.args.today s.validity in
    ap₂ (λ (s : Stop) (os : List Order). list_any (is_named s.member s.reference) os) c.stop-item.is (ap (λ (e : Entries). e.orders) c.loop-stop.invariant)
    ∙ stop-new c.args.self.now.orders valid (is_reached c.args.reference) stops i c.stop-item.result c.loop-stop-test.true c.requires.names

pub add_stop-requires-clause-held_name : goal.add_stop-requires-clause-held_name
add_stop-requires-clause-held_name g c =
    let stops = c.args.stops.now in
    let i = c.loop-stop.stop-index in
    let valid : Stop → Bool = λ s. is_still_valid c.args.today s.validity in
    ap₂ (λ (s : Stop) (ss : List Stop). list_any (is_stop_named s.member s.reference) ss) c.stop-item.is (ap (λ (e : Entries). e.stops) c.loop-stop.invariant)
    ∙ held-new c.args.self.now.orders valid (is_reached c.args.reference) stops i c.stop-item.result c.loop-stop-test.true c.requires.names

pub add_stop-requires-clause-few : goal.add_stop-requires-clause-few
add_stop-requires-clause-few g c =
    let stops = c.args.stops.now in
    let i = c.loop-stop.stop-index in
    let valid : Stop → Bool = λ s. is_still_valid c.args.today s.validity in
    let reached = is_reached c.args.reference in
    let kept = filter valid (take i stops) in
    omega (
      arith,
      ap (λ (e : Entries). length e.orders) c.loop-stop.invariant,
      ap (λ (e : Entries). length e.stops) c.loop-stop.invariant,
      length-append c.args.self.now.orders (map order_of_stop (filter reached kept)),
      length-map (filter reached kept) order_of_stop,
      length-filter_both reached (λ (s : Stop). not (reached s)) (λ s. refl) kept,
      few-taken valid stops i,
      c.loop-stop-test.true,
      c.requires.few,
    )

pub returns : goal.returns
returns g c =
    let stops = c.args.stops.now in
    let i = c.loop-stop.stop-index in
    let reached = is_reached c.args.reference in
    c.loop-stop.invariant
    ∙ ap (λ (ss : List Stop). let valid = filter (λ (s : Stop). is_still_valid c.args.today s.validity) ss in
    let e : Entries = record {
      orders = c.args.self.now.orders ++ map order_of_stop (filter reached valid);
      stops = filter (λ (s : Stop). not (reached s)) valid;
    } in e) (take_all i stops c.loop-stop-test.false)

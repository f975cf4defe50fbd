use Rattle.std.proofs.Common.{◌≡◌, ◌++◌, filter, map, not, take}
use Rattle.xm_rules.specs.Opening.{is_still_valid}
use Rattle.xm_rules.specs.Settling.{is_reached, order_of_stop}
use Rattle.xm_rules.specs.declared.orders.Stop.{Stop}
use Rattle.xm_desk.proofs.open_entries.OpenEntries.add_stops.Given as goal

abbrev pub invariant-loop-stop : goal.invariant-loop-stop
invariant-loop-stop g l =
    let valid = filter (λ (s : Stop). is_still_valid l.today s.validity) (take l.stop-index l.stops) in
    l.self ≡ record {
      orders = l.fn.self.orders ++ map order_of_stop (filter (is_reached l.reference) valid);
      stops = filter (λ (s : Stop). not (is_reached l.reference s)) valid;
    }

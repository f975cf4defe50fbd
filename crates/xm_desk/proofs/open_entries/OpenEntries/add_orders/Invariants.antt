use Rattle.std.proofs.Common.{◌≡◌, [], filter, take}
use Rattle.xm_rules.specs.Opening.{is_still_valid}
use Rattle.xm_rules.specs.declared.orders.Order.{Order}
use Rattle.xm_desk.proofs.open_entries.OpenEntries.add_orders.Given as goal

abbrev pub invariant-loop-order : goal.invariant-loop-order
invariant-loop-order g l =
    l.self ≡ record { orders = filter (λ (o : Order). is_still_valid l.today o.validity) (take l.order-index l.orders); stops = [] }

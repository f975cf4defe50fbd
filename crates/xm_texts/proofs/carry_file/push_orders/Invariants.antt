use Rattle.std.proofs.Common.{◌≡◌, ◌++◌, filter, take}
use Rattle.std.specs.List.{flat_map}
use Rattle.xm_rules.specs.Commands.{outlasts}
use Rattle.xm_rules.specs.declared.orders.Order.{Order}
use Rattle.xm_texts.specs.Carry.{carried_order}
use Rattle.xm_texts.proofs.carry_file.push_orders.Given as goal

abbrev pub invariant-loop-order : goal.invariant-loop-order
invariant-loop-order g l =
    l.text.items ≡ l.initial.text.items ++ flat_map (carried_order l.names l.security l.tick) (filter (λ (o : Order). outlasts l.today o.validity) (take l.order-index l.orders))

use Rattle.std.proofs.Common.{◌≡◌, ◌++◌, take}
use Rattle.std.specs.List.{flat_map}
use Rattle.xm_texts.specs.Statement.{order_line}
use Rattle.xm_texts.proofs.remaining.push_orders.Given as goal

abbrev pub invariant-loop-order : goal.invariant-loop-order
invariant-loop-order g l = l.text.items ≡ l.initial.text.items ++ flat_map (order_line l.names l.tick) (take l.order-index l.orders)

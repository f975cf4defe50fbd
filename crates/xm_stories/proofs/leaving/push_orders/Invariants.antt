use Rattle.std.proofs.Common.{◌≡◌, ◌++◌, map, take}
use Rattle.xm_events.specs.declared.events.Entry.TheVariants as entry
use Rattle.xm_rules.specs.declared.orders.Order.{Order}
use Rattle.xm_stories.specs.Around.{gone_for}
use Rattle.xm_stories.proofs.leaving.push_orders.Given as goal

abbrev pub invariant-loop-order : goal.invariant-loop-order
invariant-loop-order g l = l.events.items ≡ l.initial.events.items ++ map (λ (o : Order). gone_for l.reason (entry.Order o)) (take l.order-index l.orders)

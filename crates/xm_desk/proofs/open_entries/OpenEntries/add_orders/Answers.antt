use Rattle.std.proofs.Common.{◌∙◌, Bool, List, length, ap, ap₂, arith}
use Rattle.std.specs.List.{list_any}
use Rattle.xm_rules.specs.Entries.{Entries}
use Rattle.xm_rules.specs.Opening.{is_still_valid}
use Rattle.xm_rules.specs.Orders.{is_named}
use Rattle.xm_rules.specs.declared.orders.Order.{Order}
use Rattle.xm_desk.proofs.Entering.{few-taken, order-new}
use Rattle.xm_desk.proofs.open_entries.OpenEntries.add_orders.Goals as goal

pub add_order-requires-clause-name : goal.add_order-requires-clause-name
add_order-requires-clause-name g c =
    let orders = c.args.orders.now in
    let i = c.loop-order.order-index in
    let valid : Order → Bool = λ o. is_still_valid c.args.today o.validity in
    ap₂ (λ (o : Order) (os : List Order). list_any (is_named o.member o.reference) os) c.order-item.is (ap (λ (e : Entries). e.orders) c.loop-order.invariant)
    ∙ order-new valid orders i c.order-item.result c.loop-order-test.true c.requires.names

pub add_order-requires-clause-few : goal.add_order-requires-clause-few
add_order-requires-clause-few g c =
    let orders = c.args.orders.now in
    let i = c.loop-order.order-index in
    let valid : Order → Bool = λ o. is_still_valid c.args.today o.validity in
    omega (
      arith,
      ap (λ (e : Entries). length e.orders) c.loop-order.invariant,
      ap (λ (e : Entries). length e.stops) c.loop-order.invariant,
      few-taken valid orders i,
      c.loop-order-test.true,
      c.requires.few,
    )

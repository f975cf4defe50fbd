-- The active orders of a side in order of priority.
use Rattle.std.specs.Prelude.{ℕ, ◌-◌, ◌==◌, if◌then◌else◌, not, List, filter, find, sum_by, Option, Some, None, option_map}
use Rattle.std.specs.List.{list_any}
use Rattle.xm_rules.specs.Active.{Positioned, active, limits}
use Rattle.xm_rules.specs.Orders.{is_named, removed, same_kind, with_rest}
use Rattle.xm_rules.specs.Priority.{is_ahead, is_worse_limit}
use Rattle.xm_rules.specs.Sides.{best}
use Rattle.xm_rules.specs.declared.orders.Order.{Order}
use Rattle.xm_rules.specs.declared.orders.OrderKind.{OrderKind}
use Rattle.xm_rules.specs.declared.orders.OrderKind.TheVariants.{Market, Limit}
use Rattle.xm_rules.specs.declared.orders.Side.{Side}
use Rattle.xm_rules.specs.declared.phases.Phase.{Phase}

-- the order of a queue that has none ahead of it
abbrev pub first : Side → List Positioned → Option Positioned
first side queue = find (λ (j : Positioned). not (list_any (λ (i : Positioned). is_ahead side i j) queue)) queue

-- the first of those that an order is ahead of
abbrev pub first_behind : Side → List Positioned → Option Positioned → Option Positioned
first_behind side queue None = None
first_behind side queue (Some i) = first side (filter (λ (j : Positioned). is_ahead side i j) queue)

abbrev pub order_at : Option Positioned → Option Order
order_at i = option_map (λ (i : Positioned). i.order) i

-- the best active order of a side
abbrev pub best_order : Phase → Side → List Order → Option Order
best_order phase side orders = order_at (first side (active phase side orders))

-- a time list after these units were taken from one of its orders: an order that has none left is gone, and another keeps
-- its position
abbrev pub taken_from : Order → ℕ → List Order → List Order
taken_from o units orders = if units == o.rest then removed o.member o.reference orders else with_rest o.member o.reference (o.rest - units) orders

abbrev pub taken_from_any : Option Order → ℕ → List Order → List Order
taken_from_any None units orders = orders
taken_from_any (Some o) units orders = taken_from o units orders

-- the same of the best active order of a side, where there is one
abbrev pub taken_from_best : Phase → Side → ℕ → List Order → List Order
taken_from_best phase side units orders = taken_from_any (best_order phase side orders) units orders

-- the active order of a side that is next in priority after the one of this name
abbrev pub next_order : Phase → Side → ℕ → ℕ → List Order → Option Order
next_order phase side member reference orders =
    let queue = active phase side orders in
    order_at (first_behind side queue (find (λ (i : Positioned). is_named member reference i.order) queue))

-- the units that rest in the orders of one kind: in the market orders, or at one limit
abbrev pub units_at : OrderKind → List Positioned → ℕ
units_at kind queue = sum_by (λ (i : Positioned). i.order.rest) (filter (λ (i : Positioned). same_kind kind i.order.kind) queue)

-- the units that rest in the active market orders of a side
abbrev pub market_sum : Phase → Side → List Order → ℕ
market_sum phase side orders = units_at Market (active phase side orders)

-- the limits that are worse than this one; all of them where there is none
abbrev pub limits_after : Side → Option ℕ → List Positioned → List ℕ
limits_after side None queue = limits queue
limits_after side (Some p) queue = filter (is_worse_limit side p) (limits queue)

-- the best limit of the active orders of a side that is worse than this one, or the best of all where there is none, with
-- the units that rest at it
abbrev pub level_after : Phase → Side → Option ℕ → List Order → Option (ℕ × ℕ)
level_after phase side after orders =
    let queue = active phase side orders in
    option_map (λ (p : ℕ). (p, units_at (Limit p) queue)) (best side (limits_after side after queue))

-- Whether orders of the two sides meet that trading would have executed.
use Rattle.std.specs.Prelude.{◌≡◌, Bool, false, List, Contains}
use Rattle.std.specs.List.{list_any}
use Rattle.xm_rules.specs.Active.{Positioned, active}
use Rattle.xm_rules.specs.Orders.{meets}
use Rattle.xm_rules.specs.Sides.{opposite}
use Rattle.xm_rules.specs.declared.orders.Order.{Order}
use Rattle.xm_rules.specs.declared.orders.OrderKind.{OrderKind}
use Rattle.xm_rules.specs.declared.orders.Side.{Side}
use Rattle.xm_rules.specs.declared.phases.Phase.TheVariants.{Continuous}

-- no two orders of a time list that are active in continuous trading meet: no limits cross, and no market order rests beside an
-- active order of the other side
abbrev pub NoneMeet : List Order → Type 0
NoneMeet orders =
    (side : Side) (i j : Positioned) → Contains (active Continuous side orders) i → Contains (active Continuous (opposite side) orders) j → meets side i.order.kind j.order.kind ≡ false

-- an order of this side and kind that comes in in continuous trading would meet one, inside the ranges or not
abbrev pub would_execute : List Order → Side → OrderKind → Bool
would_execute orders side kind = list_any (λ (i : Positioned). meets side kind i.order.kind) (active Continuous (opposite side) orders)

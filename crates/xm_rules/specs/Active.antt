-- Which orders are active in a phase.
use Rattle.std.specs.Prelude.{ℕ, ◌+◌, Bool, true, false, ◌&&◌, List, [], ◌∷◌, filter}
use Rattle.std.specs.List.{filter_map}
use Rattle.xm_rules.specs.Orders.{limit_of}
use Rattle.xm_rules.specs.Sides.{same_side}
use Rattle.xm_rules.specs.declared.orders.Order.{Order}
use Rattle.xm_rules.specs.declared.orders.Restriction.{Restriction}
use Rattle.xm_rules.specs.declared.orders.Restriction.TheVariants.{Free, OpeningOnly, AuctionsOnly, ClosingOnly}
use Rattle.xm_rules.specs.declared.orders.Side.{Side}
use Rattle.xm_rules.specs.declared.phases.Auction.TheVariants.{Opening, Closing}
use Rattle.xm_rules.specs.declared.phases.Phase.{Phase}
use Rattle.xm_rules.specs.declared.phases.Phase.TheVariants.{Call, Continuous}

-- an order takes part in the calls and in continuous trading as its restriction says; in no other phase is one active
abbrev pub is_active : Phase → Restriction → Bool
is_active (Call auction stage) Free = true
is_active (Call Opening stage) OpeningOnly = true
is_active (Call auction stage) AuctionsOnly = true
is_active (Call Closing stage) ClosingOnly = true
is_active Continuous Free = true
is_active _ _ = false

-- an order with its position in the time list, counted from 0
pub record Positioned : Type 0 where
  pub position : ℕ
  pub order : Order

abbrev pub positioned_from : ℕ → List Order → List Positioned
positioned_from position [] = []
positioned_from position (o ∷ os) = record { position = position; order = o } ∷ positioned_from (position + 1) os

-- an order of this side that is active in the phase
abbrev pub is_active_on : Phase → Side → Positioned → Bool
is_active_on phase side i = is_active phase i.order.restriction && same_side side i.order.side

-- the active orders of a side, in time order
abbrev pub active : Phase → Side → List Order → List Positioned
active phase side orders = filter (is_active_on phase side) (positioned_from 0 orders)

-- the limits of those that have one
abbrev pub limits : List Positioned → List ℕ
limits queue = filter_map (λ (i : Positioned). limit_of i.order.kind) queue

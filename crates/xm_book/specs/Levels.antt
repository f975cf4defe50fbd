-- Which level an order stands in.
use Rattle.std.specs.Prelude.{◌≡◌, ◌<◌, ℕ, ◌+◌, ◌-◌, Bool, ◌&&◌, List, [], Option, None, Some}
use Rattle.xm_ladders.specs.Ladder.{IsCleared}
use Rattle.xm_ladders.specs.Ladders.{level_on, side_of}
use Rattle.xm_ladders.specs.declared.ladders.Ladders.{Ladders}
use Rattle.xm_ladders.specs.declared.level.Level.{Level}
use Rattle.xm_queues.specs.Queue.{IsQueue, ends_with, ends_without}
use Rattle.xm_queues.specs.declared.links.Link.{Link}
use Rattle.xm_rules.specs.Orders.{same_kind, same_restriction}
use Rattle.xm_rules.specs.Sides.{same_side}
use Rattle.xm_rules.specs.declared.orders.Order.{Order}
use Rattle.xm_rules.specs.declared.orders.OrderKind.{OrderKind}
use Rattle.xm_rules.specs.declared.orders.Restriction.{Restriction}
use Rattle.xm_rules.specs.declared.orders.Side.{Side}

-- the order stands in the level of this side, restriction and kind
abbrev pub at_level : Side → Restriction → OrderKind → Order → Bool
at_level s r k o = same_side s o.side && (same_restriction r o.restriction && same_kind k o.kind)

module _ {A : Type 0} where
  abbrev pub level_for : Order → Ladders A → Option Level
  level_for o l = level_on (side_of o.side l) o.restriction o.kind

-- the level that is there, or else an empty one
abbrev pub IsLevelFound : Option Level → Level → Type 0
IsLevelFound None l = ((links : List Link) → IsQueue links l.ends []) × ((l.orders ≡ 0) × (l.units ≡ 0))
IsLevelFound (Some x) l = l ≡ x

-- the level that was put, or none where it has no order
abbrev pub IsLevelSet : Option Level → Level → Type 0
IsLevelSet o l = (0 < l.orders → o ≡ Some l) × (l.orders ≡ 0 → IsCleared o)

-- a level once an order has joined it under this key, the last
abbrev pub level_joined : Level → Order → ℕ → Level
level_joined level o key = record { ends = ends_with level.ends key; orders = level.orders + 1; units = level.units + o.rest }

-- a level once the order under this key has left it
abbrev pub level_left : List Link → Level → Order → ℕ → Level
level_left links level o key = record { ends = ends_without links level.ends key; orders = level.orders - 1; units = level.units - o.rest }

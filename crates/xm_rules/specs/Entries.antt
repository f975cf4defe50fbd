-- The orders and stops that earlier days left, and their names.
use Rattle.std.specs.Prelude.{ℕ, Bool, true, ◌&&◌, ◌==◌, not, List, [], ◌∷◌, ◌++◌, map, Option, Some, None}
use Rattle.std.specs.List.{list_any}
use Rattle.xm_rules.specs.declared.orders.Order.{Order}
use Rattle.xm_rules.specs.declared.orders.Stop.{Stop}

pub record Entries : Type 0 where
  -- in the order in which they stood in the time list
  pub orders : List Order
  -- in order of entry
  pub stops : List Stop

abbrev pub none_left : Entries
none_left = record { orders = []; stops = [] }

abbrev pub left : Option Entries → Entries
left None = none_left
left (Some entries) = entries

-- the member, and the member's own reference
abbrev pub order_name : Order → ℕ × ℕ
order_name o = (o.member, o.reference)

abbrev pub stop_name : Stop → ℕ × ℕ
stop_name stop = (stop.member, stop.reference)

abbrev pub names : Entries → List (ℕ × ℕ)
names e = map order_name e.orders ++ map stop_name e.stops

abbrev pub is_same_name : ℕ × ℕ → ℕ × ℕ → Bool
is_same_name a b = (b.0 == a.0) && (b.1 == a.1)

-- no name stands twice
abbrev pub are_distinct : List (ℕ × ℕ) → Bool
are_distinct [] = true
are_distinct (name ∷ more) = not (list_any (is_same_name name) more) && are_distinct more

-- Priority: which of two active orders of a side is ahead, and how many units are ahead of one.
use Rattle.std.specs.Prelude.{ℕ, ◌-◌, Bool, true, false, ◌&&◌, ◌||◌, not, if◌then◌else◌, nat_le, nat_lt, List, [], ◌∷◌, filter, map, sum_by}
use Rattle.xm_rules.specs.Active.{Positioned, positioned_from}
use Rattle.xm_rules.specs.Sides.{reaches}
use Rattle.xm_rules.specs.declared.orders.Order.{Order}
use Rattle.xm_rules.specs.declared.orders.OrderKind.{OrderKind}
use Rattle.xm_rules.specs.declared.orders.OrderKind.TheVariants.{Market, Limit}
use Rattle.xm_rules.specs.declared.orders.Side.{Side}

-- the second limit is worse than the first
abbrev pub is_worse_limit : Side → ℕ → ℕ → Bool
is_worse_limit side p q = not (reaches side q p)

-- market orders come first, then better limits
abbrev pub is_better : Side → OrderKind → OrderKind → Bool
is_better side Market Market = false
is_better side Market (Limit q) = true
is_better side (Limit p) Market = false
is_better side (Limit p) (Limit q) = is_worse_limit side p q

-- then the earlier ones
abbrev pub is_prior : Side → OrderKind → OrderKind → Bool → Bool
is_prior side kind other is_earlier = is_better side kind other || (not (is_better side other kind) && is_earlier)

-- in the time list
abbrev pub is_ahead : Side → Positioned → Positioned → Bool
is_ahead side i j = is_prior side i.order.kind j.order.kind (nat_lt i.position j.position)

-- the units that rest ahead of an order of a side
abbrev pub before : Side → List Positioned → Positioned → ℕ
before side queue j = sum_by (λ (i : Positioned). if is_ahead side i j then i.order.rest else 0) queue

-- a time list after these units were taken from its orders; an order that has none left is gone
abbrev pub without_units : (Positioned → ℕ) → List Order → List Order
without_units taken orders =
    filter (λ (o : Order). nat_lt 0 o.rest) (map (λ (i : Positioned). let o = i.order in record o { rest = o.rest - taken i }) (positioned_from 0 orders))

module _ {A : Type 0} where
  abbrev pub insert_in_order : ℕ × A → List (ℕ × A) → List (ℕ × A)
  insert_in_order x [] = x ∷ []
  insert_in_order x (y ∷ ys) = if nat_le x.0 y.0 then x ∷ y ∷ ys else y ∷ insert_in_order x ys

  abbrev pub sorted : List (ℕ × A) → List (ℕ × A)
  sorted [] = []
  sorted (x ∷ xs) = insert_in_order x (sorted xs)

  -- in rising order of their numbers
  abbrev pub in_order : List (ℕ × A) → List A
  in_order xs = map (λ (x : ℕ × A). x.1) (sorted xs)

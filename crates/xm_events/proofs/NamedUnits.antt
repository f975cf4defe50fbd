-- The units of the orders and stops of a name: in parts of lists, and where units are taken from a time list.
use Rattle.std.proofs.Common.{◌≡◌, ℕ, ◌+◌, ◌-◌, ◌≤◌, Bool, true, false, if◌then◌else◌, List, [], ◌∷◌, map, sum_by, refl, arith}
use Rattle.std.specs.Prelude.{nat_lt}
use Rattle.std.proofs.lemmas.Bool.Decides.{nat_tests}
use Rattle.std.proofs.lemmas.List.Sums.{sum_by-append, sum_by-cons}
use Rattle.xm_events.specs.Life.{taken, entry_units}
use Rattle.xm_events.specs.Story.{side_fill, fills, leave_events, units_traded}
use Rattle.xm_events.specs.declared.events.Entry.{Entry}
use Rattle.xm_events.specs.declared.events.Entry.TheVariants as entry
use Rattle.xm_events.specs.declared.events.Event.{Event}
use Rattle.xm_events.specs.declared.events.Event.TheVariants.{Filled}
use Rattle.xm_rules.specs.Active.{Positioned, positioned_from}
use Rattle.xm_rules.specs.Orders.{is_named, trade_between}
use Rattle.xm_rules.specs.Priority.{without_units}
use Rattle.xm_rules.specs.declared.orders.Order.{Order}
use Rattle.xm_rules.specs.declared.orders.Side.{Side}
use Rattle.xm_rules.specs.declared.orders.Side.TheVariants.{Buy, Sell}
use Rattle.xm_rules.specs.declared.orders.Stop.{Stop}
use Rattle.xm_rules.specs.declared.orders.Trade.{Trade}
use Rattle.xm_rules.specs.declared.orders.TradeKind.{TradeKind}
use Rattle.xm_rules.proofs.Orderings.{sum-filter, sum-map}
use Rattle.xm_rules.proofs.Sums.{sum-add, sum-each}
use Rattle.xm_events.proofs.TestedSums.{parts_if}

-- what orders with their positions have is what the orders have
pub sum-placed : (f : Order → ℕ) (position : ℕ) (os : List Order) → sum_by (λ (i : Positioned). f i.order) (positioned_from position os) ≡ sum_by f os
sum-placed f position [] = refl
sum-placed f position (o ∷ os) =
    omega (
      arith,
      sum_by-cons (λ (i : Positioned). f i.order) (record { position = position; order = o }) (positioned_from (position + 1) os),
      sum_by-cons f o os,
      sum-placed f (position + 1) os,
    )

module _ (member reference : ℕ) where
  -- the units of an order, if it has the name, and of a stop
  abbrev pub order_units : Order → ℕ
  order_units o = entry_units member reference (entry.Order o)

  abbrev pub stop_units : Stop → ℕ
  stop_units stop = entry_units member reference (entry.Stop stop)

  -- ---- units that are taken from a time list

  -- the units that are taken from an order, if it has the name
  abbrev pub of_named : (Positioned → ℕ) → Positioned → ℕ
  of_named take i = if is_named member reference i.order then take i else 0

  some_part : (b : Bool) (n : ℕ) → ◌≡◌ {A = ℕ} (if nat_lt 0 n then (if b then n else 0) else 0) (if b then n else 0)
  some_part true n = grind (arith, nat_tests)
  some_part false n = grind (arith, nat_tests)

  -- of the orders of a name, those units are left that weren't taken from them
  pub named_left : (take : Positioned → ℕ) (orders : List Order) → ((i : Positioned) → take i ≤ i.order.rest)
      → sum_by order_units (without_units take orders) + sum_by (of_named take) (positioned_from 0 orders) ≡ sum_by order_units orders
  named_left take orders within =
      let lessened = λ (i : Positioned). (let o = i.order in let p : Order = record o { rest = o.rest - take i } in p) in
      let ps = positioned_from 0 orders in
      let os = map lessened ps in
      omega (
        arith,
        sum-filter order_units (λ (o : Order). nat_lt 0 o.rest) os,
        sum-each (λ (o : Order). if nat_lt 0 o.rest then order_units o else 0) order_units os (λ o. some_part (is_named member reference o) o.rest),
        sum-map order_units lessened ps,
        sum-add (λ (i : Positioned). order_units (lessened i)) (of_named take) ps,
        sum-each (λ (i : Positioned). order_units (lessened i) + of_named take i) (λ (i : Positioned). order_units i.order) ps
            (λ i. parts_if (is_named member reference i.order) (i.order.rest - take i) (take i) i.order.rest (omega (arith, within i))),
        sum-placed order_units 0 orders,
      )

  -- ---- what events take

  -- a trade takes its units of the order on each side
  pub units_between : (number : ℕ) (kind : TradeKind) (price quantity : ℕ) (side : Side) (o i : Order)
      → units_traded member reference (trade_between number kind price quantity side o i) ≡ (if is_named member reference o then quantity else 0) + (if is_named member reference i then quantity else 0)
  units_between number kind price quantity Buy o i = refl
  units_between number kind price quantity Sell o i = omega arith

  -- the fills of trades take what the trades do
  pub fills_take : (left : ℕ → ℕ → ℕ) (ts : List Trade) → sum_by (taken member reference) (fills left ts) ≡ sum_by (units_traded member reference) ts
  fills_take left [] = refl
  fills_take left (t ∷ ts) =
      omega (
        arith,
        sum_by-cons (taken member reference) (Filled (side_fill Buy left t ts)) (Filled (side_fill Sell left t ts) ∷ fills left ts),
        sum_by-cons (taken member reference) (Filled (side_fill Sell left t ts)) (fills left ts),
        sum_by-cons (units_traded member reference) t ts,
        fills_take left ts,
      )

  -- orders and stops that are deleted take their units with them
  pub leaving_takes : (gone : Entry → Event) (orders : List Order) (stops : List Stop) → ((e : Entry) → taken member reference (gone e) ≡ entry_units member reference e)
      → sum_by (taken member reference) (leave_events gone orders stops) ≡ sum_by order_units orders + sum_by stop_units stops
  leaving_takes gone orders stops takes =
      let of_order = λ (o : Order). gone (entry.Order o) in
      let of_stop = λ (stop : Stop). gone (entry.Stop stop) in
      omega (
        arith,
        sum_by-append (taken member reference) (map of_order orders) (map of_stop stops),
        sum-map (taken member reference) of_order orders,
        sum-map (taken member reference) of_stop stops,
        sum-each (λ (o : Order). taken member reference (of_order o)) order_units orders (λ o. takes (entry.Order o)),
        sum-each (λ (stop : Stop). taken member reference (of_stop stop)) stop_units stops (λ stop. takes (entry.Stop stop)),
      )

-- What the trades of a call take of the orders of a name: what the call allots to each.
use Rattle.std.proofs.Common.{◌≡◌, ℕ, ◌+◌, ◌-◌, ◌≤◌, min, max, Bool, true, false, ◌&&◌, if◌then◌else◌, List, filter, All, Contains, sum_by, Some, None, refl, sym, ap, ◌∙◌, arith}
use Rattle.std.specs.List.{filter_map, flat_map}
use Rattle.std.specs.Prelude.{nat_lt}
use Rattle.std.proofs.lemmas.Bool.Decides.{nat_tests}
use Rattle.std.proofs.lemmas.List.Elements.{All-contains_itself, All-filter, filter_passes}
use Rattle.xm_events.specs.Story.{units_traded}
use Rattle.xm_rules.specs.Active.{Positioned, is_active, is_active_on, positioned_from}
use Rattle.xm_rules.specs.Allotment.{Uncrossing, allotted, auction_trades, end_unit, first_unit, orders_after_call, parties, side_queue, takes_part, trade_of_pair}
use Rattle.xm_rules.specs.Orders.{accepts, is_named, trade_between}
use Rattle.xm_rules.specs.Priority.{before}
use Rattle.xm_rules.specs.Sides.{same_side}
use Rattle.xm_rules.specs.declared.orders.Side.{Side}
use Rattle.xm_rules.specs.declared.orders.Side.TheVariants.{Buy, Sell}
use Rattle.xm_rules.specs.declared.orders.TradeKind.TheVariants.{Auction}
use Rattle.xm_rules.specs.declared.phases.Phase.TheVariants.{Call}
use Rattle.xm_rules.proofs.Allotments.{at_price, kinds_accept, total}
use Rattle.xm_rules.proofs.Orderings.{by_second, of_some, sum-filter, sum-filter_map, sum-flat_map, sum-in_order}
use Rattle.xm_rules.proofs.Positions.{rising_active, rising_kept}
use Rattle.xm_rules.proofs.Queues.{apart, units, within_those}
use Rattle.xm_rules.proofs.Sums.{sum-add, sum-each}
use Rattle.xm_rules.proofs.Units.{owned, owned_all, owned_of}
use Rattle.xm_events.proofs.NamedUnits.{named_left, of_named, order_units}
use Rattle.xm_events.proofs.TestedSums.{same_if, sum-narrower, sum-swap, sum-under, swap_if}

-- ---- the units that an owner has in common with those of a side

module _ (u : Uncrossing) (side : Side) (enough : u.volume ≤ total u side) where
  -- those that accept the price
  abbrev those : List Positioned
  those = filter (at_price u side) (side_queue u side)

  -- the first unit of each
  abbrev first : Positioned → ℕ
  first = before side (side_queue u side)

  -- they own each unit in turn
  in_turn : (unit : ℕ) → unit ≤ total u side → sum_by (owned first units unit) those ≡ unit
  in_turn unit l =
      let queue = side_queue u side in
      let inside : All (Contains queue) those = All-filter (at_price u side) (Contains queue) queue (All-contains_itself queue) in
      owned_all first units those (apart side queue those inside (rising_kept (at_price u side) queue (rising_active (Call u.auction u.stage) side u.orders)))
      (total u side)
      (λ k d m. within_those side (at_price u side) queue _ (λ x h. kinds_accept side x.order.kind x.position _ _ u.price h (filter_passes (at_price u side) queue k d m)) (filter_passes (at_price u side) queue k d m) (inside k d m))
      (sum-filter units (at_price u side) queue) unit l

  -- the units that one has in common with a stretch of units
  abbrev lap : ℕ → ℕ → Positioned → ℕ
  lap from to i = min to (end_unit u side i) - max from (first_unit u side i)

  -- so many are what it owns up to the end, less what it owns before the beginning
  common : (from to other count : ℕ) → from ≤ to → to ≤ u.volume → (min to (min (other + count) u.volume) - max from other) + owned_of other count from ≡ owned_of other count to
  common from to other count l m = omega arith

  -- together they have the whole stretch in common
  laps : (from to : ℕ) → from ≤ to → to ≤ u.volume → sum_by (lap from to) those ≡ to - from
  laps from to l m =
      omega (
        arith,
        sum-add (lap from to) (owned first units from) those,
        sum-each (λ (i : Positioned). lap from to i + owned first units from i) (owned first units to) those (λ i. common from to (first i) (units i) l m),
        in_turn from (omega arith),
        in_turn to (omega arith),
      )

  -- also where the stretch ends before it begins
  stretch : (from to : ℕ) → to ≤ u.volume → sum_by (lap from to) those ≡ to - from
  stretch from to l =
      omega (
        arith,
        laps (min from to) to (omega arith) l,
        sum-each (lap from to) (lap (min from to) to) those (λ i. same_lap from to (end_unit u side i) (first_unit u side i)),
      )
    where
      same_lap : (from to end first : ℕ) → min to end - max from first ≡ min to end - max (min from to) first
      same_lap from to end first = omega arith

  -- the parties of a call are those that accept its price
  parties_sum : (f : Positioned → ℕ) → sum_by f (parties u side) ≡ sum_by f those
  parties_sum f =
      let ps = positioned_from 0 u.orders in
      let on = is_active_on (Call u.auction u.stage) side in
      sum-narrower on (takes_part u side) f ps (λ i e. (λ k. e k && at_price u side i))
      ∙ sum-each (λ (i : Positioned). if takes_part u side i then f i else 0) (λ (i : Positioned). if on i then (if at_price u side i then f i else 0) else 0) ps
      (λ i. both_if (on i) (at_price u side i) (f i))
      ∙ sym (sum-filter (λ (i : Positioned). if at_price u side i then f i else 0) on ps) ∙ sym (sum-filter f (at_price u side) (side_queue u side))
    where
      both_if : (a b : Bool) (n : ℕ) → ◌≡◌ {A = ℕ} (if a && b then n else 0) (if a then (if b then n else 0) else 0)
      both_if true b n = refl
      both_if false b n = refl

  -- so the parties of a side share each stretch of units up to the volume
  shared : (from to : ℕ) → to ≤ u.volume → sum_by (lap from to) (parties u side) ≡ to - from
  shared from to l = parties_sum (lap from to) ∙ stretch from to l

-- ---- the trades

module _ (member reference : ℕ) (u : Uncrossing) where
  -- an order has the name
  abbrev its : Positioned → Bool
  its i = is_named member reference i.order

  -- the units that an order owns up to the volume
  abbrev own : Side → Positioned → ℕ
  own side i = end_unit u side i - first_unit u side i

  -- the units that a buy and a sell both own
  abbrev common_units : Positioned → Positioned → ℕ
  common_units b s = min (end_unit u Buy b) (end_unit u Sell s) - max (first_unit u Buy b) (first_unit u Sell s)

  traded_if : (number from to : ℕ) (b s : Positioned) (t : Bool) → nat_lt from to ≡ t
      → of_some (by_second (units_traded member reference)) (if t then Some (from, trade_between number (Auction u.auction u.stage) u.price (to - from) Buy b.order s.order) else None)
      ≡ (if its b then to - from else 0) + (if its s then to - from else 0)
  traded_if number from to b s true e = refl
  traded_if number from to b s false e = nothing (its b) (its s) (to - from) (grind (arith, nat_tests)) where
    nothing : (a b : Bool) (n : ℕ) → n ≡ 0 → 0 ≡ (if a then n else 0) + (if b then n else 0)
    nothing true true n e = omega arith
    nothing true false n e = omega arith
    nothing false true n e = omega arith
    nothing false false n e = omega arith

  -- a pair takes of a name what both own, once for each side that has the name
  pair_takes : (number : ℕ) (b s : Positioned) → of_some (by_second (units_traded member reference)) (trade_of_pair number u b s)
      ≡ (if its b then common_units b s else 0) + (if its s then common_units b s else 0)
  pair_takes number b s =
      let from = max (first_unit u Buy b) (first_unit u Sell s) in
      let to = min (end_unit u Buy b) (end_unit u Sell s) in
      traded_if number from to b s (nat_lt from to) refl

  abbrev of_side : Side → Positioned → ℕ
  of_side side i = if its i then own side i else 0

  module _ (buys : u.volume ≤ total u Buy) (sells : u.volume ≤ total u Sell) where
    -- a buy trades with the sells all that it owns up to the volume, and a sell with the buys
    by_buys : sum_by (λ (b : Positioned). sum_by (λ (s : Positioned). if its b then common_units b s else 0) (parties u Sell)) (parties u Buy) ≡ sum_by (of_side Buy) (parties u Buy)
    by_buys =
        sum-each (λ (b : Positioned). sum_by (λ (s : Positioned). if its b then common_units b s else 0) (parties u Sell)) (of_side Buy) (parties u Buy)
        (λ b. sum-under (its b) (common_units b) (parties u Sell)
        ∙ same_if (its b) (sum_by (common_units b) (parties u Sell)) (own Buy b) (shared u Sell sells (first_unit u Buy b) (end_unit u Buy b) (omega arith)))

    by_sells : sum_by (λ (b : Positioned). sum_by (λ (s : Positioned). if its s then common_units b s else 0) (parties u Sell)) (parties u Buy) ≡ sum_by (of_side Sell) (parties u Sell)
    by_sells =
        let mirrored = λ (s b : Positioned). min (end_unit u Sell s) (end_unit u Buy b) - max (first_unit u Sell s) (first_unit u Buy b) in
        sum-swap (λ (b s : Positioned). if its s then common_units b s else 0) (parties u Buy) (parties u Sell)
        ∙ sum-each (λ (s : Positioned). sum_by (λ (b : Positioned). if its s then common_units b s else 0) (parties u Buy)) (of_side Sell) (parties u Sell)
        (λ s. sum-under (its s) (λ (b : Positioned). common_units b s) (parties u Buy)
        ∙ same_if (its s) (sum_by (λ (b : Positioned). common_units b s) (parties u Buy)) (own Sell s)
        (sum-each (λ (b : Positioned). common_units b s) (mirrored s) (parties u Buy) (λ b. omega arith)
        ∙ shared u Buy buys (first_unit u Sell s) (end_unit u Sell s) (omega arith)))

    -- so the trades take of a name what its orders own
    by_pairs : (number : ℕ) → sum_by (units_traded member reference) (auction_trades number u) ≡ sum_by (of_side Buy) (parties u Buy) + sum_by (of_side Sell) (parties u Sell)
    by_pairs number =
        let each = λ (b : Positioned). filter_map (trade_of_pair number u b) (parties u Sell) in
        let of_buy = λ (b : Positioned). sum_by (λ (s : Positioned). if its b then common_units b s else 0) (parties u Sell) in
        let of_sell = λ (b : Positioned). sum_by (λ (s : Positioned). if its s then common_units b s else 0) (parties u Sell) in
        let takes = by_second (units_traded member reference) in
        omega (
          arith,
          sum-in_order (units_traded member reference) (flat_map each (parties u Buy)),
          sum-flat_map takes each (parties u Buy),
          sum-each (λ (b : Positioned). sum_by takes (each b)) (λ (b : Positioned). of_buy b + of_sell b) (parties u Buy)
              (λ b. sum-filter_map takes (trade_of_pair number u b) (parties u Sell)
              ∙ sum-each (λ (s : Positioned). of_some takes (trade_of_pair number u b s)) (λ (s : Positioned). (if its b then common_units b s else 0) + (if its s then common_units b s else 0)) (parties u Sell) (pair_takes number b)
              ∙ sum-add (λ (s : Positioned). if its b then common_units b s else 0) (λ (s : Positioned). if its s then common_units b s else 0) (parties u Sell)),
          sum-add of_buy of_sell (parties u Buy),
          by_buys,
          by_sells,
        )

  -- ---- the orders

  -- an order of the other side takes no part
  off : (a b c : Bool) (n : ℕ) → b ≡ false → ◌≡◌ {A = ℕ} (if (a && b) && c then n else 0) 0
  off true true c n e = absurd (cc)
  off true false c n e = refl
  off false b c n e = refl

  -- an order owns units on its own side
  of_its_side : (i : Positioned) (side : Side) → i.order.side ≡ side
      → (if takes_part u Buy i then of_side Buy i else 0) + (if takes_part u Sell i then of_side Sell i else 0) ≡ (if its i then (if takes_part u side i then own side i else 0) else 0)
  of_its_side i Buy e =
      let other = off (is_active (Call u.auction u.stage) i.order.restriction) (same_side Sell i.order.side) (accepts Sell i.order.kind u.price) (of_side Sell i) (ap (same_side Sell) e) in
      omega (arith, other, swap_if (takes_part u Buy i) (its i) (own Buy i))
  of_its_side i Sell e =
      let other = off (is_active (Call u.auction u.stage) i.order.restriction) (same_side Buy i.order.side) (accepts Buy i.order.kind u.price) (of_side Buy i) (ap (same_side Buy) e) in
      omega (arith, other, swap_if (takes_part u Sell i) (its i) (own Sell i))

  of_parties : (side : Side) → sum_by (of_side side) (parties u side) ≡ sum_by (λ (i : Positioned). if takes_part u side i then of_side side i else 0) (positioned_from 0 u.orders)
  of_parties side =
      sum-narrower (is_active_on (Call u.auction u.stage) side) (takes_part u side) (of_side side) (positioned_from 0 u.orders) (λ i e. (λ k. e k && at_price u side i))

  -- no order is allotted more than it has
  allotted_within : (i : Positioned) → allotted u i ≤ i.order.rest
  allotted_within i = within (takes_part u i.order.side i) (first_unit u i.order.side i) i.order.rest u.volume where
    within : (b : Bool) (first rest volume : ℕ) → (if b then min (first + rest) volume - first else 0) ≤ rest
    within true first rest volume = omega arith
    within false first rest volume = omega arith

  -- what the trades take of a name, its orders lose
  pub call_conserves : u.volume ≤ total u Buy → u.volume ≤ total u Sell → (number : ℕ)
      → sum_by (units_traded member reference) (auction_trades number u) + sum_by (order_units member reference) (orders_after_call u) ≡ sum_by (order_units member reference) u.orders
  call_conserves buys sells number =
      let ps = positioned_from 0 u.orders in
      let of_buys = λ (i : Positioned). (if takes_part u Buy i then of_side Buy i else 0) in
      let of_sells = λ (i : Positioned). (if takes_part u Sell i then of_side Sell i else 0) in
      omega (
        arith,
        by_pairs buys sells number,
        of_parties Buy,
        of_parties Sell,
        sum-add of_buys of_sells ps,
        sum-each (λ (i : Positioned). of_buys i + of_sells i) (of_named member reference (allotted u)) ps (λ i. of_its_side i i.order.side refl),
        named_left member reference (allotted u) u.orders allotted_within,
      )

-- The trades of an allotment sum to its volume.
use Rattle.std.proofs.Common.{sym, ◌≡◌, ℕ, ◌+◌, ◌-◌, ◌≤◌, min, max, Bool, true, false, not, ◌&&◌, ◌||◌, if◌then◌else◌, cond, List, [], ◌∷◌, filter, All, Contains, sum_by, Some, None, refl, ap, ◌∙◌, arith}
use Rattle.std.specs.List.{filter_map, flat_map}
use Rattle.std.specs.Prelude.{nat_lt, nat_le}
use Rattle.std.proofs.lemmas.Bool.{and_parts}
use Rattle.std.proofs.lemmas.Bool.Decides.{nat_tests}
use Rattle.std.proofs.lemmas.List.Elements.{All-contains_itself, All-filter, filter_passes, All-weaker}
use Rattle.xm_rules.specs.Active.{is_active, Positioned, positioned_from, is_active_on}
use Rattle.xm_rules.specs.Allotment.{allotted, takes_part, Uncrossing, side_queue, first_unit, end_unit, traded_units, trade_of_pair, parties, auction_trades}
use Rattle.xm_rules.specs.Auction.{accepting, volume}
use Rattle.xm_rules.specs.Orders.{accepts, trade_between}
use Rattle.xm_rules.specs.Priority.{before}
use Rattle.xm_rules.specs.Sides.{same_side}
use Rattle.xm_rules.specs.Sums.{total_quantity}
use Rattle.xm_rules.specs.declared.orders.OrderKind.{OrderKind}
use Rattle.xm_rules.specs.declared.orders.OrderKind.TheVariants.{Market, Limit}
use Rattle.xm_rules.specs.declared.orders.Side.{Side}
use Rattle.xm_rules.specs.declared.orders.Side.TheVariants.{Buy, Sell}
use Rattle.xm_rules.specs.declared.orders.TradeKind.TheVariants.{Auction}
use Rattle.xm_rules.specs.declared.phases.Phase.TheVariants.{Call}
use Rattle.xm_rules.proofs.Ahead.{precedes}
use Rattle.xm_rules.proofs.Orderings.{by_second, of_some, sum-in_order, sum-flat_map, sum-filter_map, sum-filter}
use Rattle.xm_rules.proofs.Positions.{rising_active, rising_kept}
use Rattle.xm_rules.proofs.Queues.{units, apart, within_those}
use Rattle.xm_rules.proofs.Sums.{sum-add, sum-each, sum-same}
use Rattle.xm_rules.proofs.Sweeps.{quantity_of}
use Rattle.xm_rules.proofs.Units.{owned_of, owned, owned_all}

-- what is ahead of an order that accepts a price accepts it
buys_accept : (p q x m n : ℕ) → (not (nat_le p q) || (not (not (nat_le q p)) && nat_lt m n)) ≡ true → nat_le x q ≡ true → nat_le x p ≡ true
buys_accept p q x m n h e = grind (arith, nat_tests)

sells_accept : (p q x m n : ℕ) → (not (nat_le q p) || (not (not (nat_le p q)) && nat_lt m n)) ≡ true → nat_le q x ≡ true → nat_le p x ≡ true
sells_accept p q x m n h e = grind (arith, nat_tests)

pub kinds_accept : (side : Side) (k : OrderKind) (m : ℕ) (l : OrderKind) (n : ℕ) (x : ℕ) → precedes side k m l n ≡ true → accepts side l x ≡ true → accepts side k x ≡ true
kinds_accept side Market m l n x h e = refl
kinds_accept side (Limit p) m Market n x h e = absurd (cc)
kinds_accept Buy (Limit p) m (Limit q) n x h e = buys_accept p q x m n h e
kinds_accept Sell (Limit p) m (Limit q) n x h e = sells_accept p q x m n h e

abbrev pub at_price : Uncrossing → Side → Positioned → Bool
at_price u side i = accepts side i.order.kind u.price

abbrev pub total : Uncrossing → Side → ℕ
total u side = accepting (Call u.auction u.stage) u.orders side u.price

-- those that take part own each unit that they have
row : (u : Uncrossing) (side : Side) (unit : ℕ) → unit ≤ total u side
    → sum_by (owned (before side (side_queue u side)) units unit) (filter (at_price u side) (side_queue u side)) ≡ unit
row u side unit l =
    let queue = side_queue u side in
    let those = filter (at_price u side) queue in
    let inside : All (Contains queue) those = All-filter (at_price u side) (Contains queue) queue (All-contains_itself queue) in
    owned_all (before side queue) units those (apart side queue those inside (rising_kept (at_price u side) queue (rising_active (Call u.auction u.stage) side u.orders)))
    (total u side)
    (λ k d m. within_those side (at_price u side) queue _ (λ x h. kinds_accept side x.order.kind x.position _ _ u.price h (filter_passes (at_price u side) queue k d m)) (filter_passes (at_price u side) queue k d m) (inside k d m))
    (sum-filter units (at_price u side) queue) unit l

module _ {X : Type 0} (p q : X → Bool) where
  twice_if : (x : X) (xs : List X) (b : Bool) → p x ≡ b → filter (λ y. p y && q y) (filter p xs) ≡ filter q (filter p xs)
      → filter (λ y. p y && q y) (cond b (x ∷ filter p xs) (filter p xs)) ≡ filter q (cond b (x ∷ filter p xs) (filter p xs))
  twice_if x xs true e i = rw (e, i) refl
  twice_if x xs false e i = i

  twice : (xs : List X) → filter (λ y. p y && q y) (filter p xs) ≡ filter q (filter p xs)
  twice [] = refl
  twice (x ∷ xs) = twice_if x xs (p x) refl (twice xs)

parties_are : (u : Uncrossing) (side : Side) → parties u side ≡ filter (at_price u side) (side_queue u side)
parties_are u side = twice (is_active_on (Call u.auction u.stage) side) (at_price u side) (positioned_from 0 u.orders)

traded_if : (number : ℕ) (u : Uncrossing) (b s : Positioned) (from to : ℕ) (t : Bool) → nat_lt from to ≡ t
    → of_some (by_second quantity_of) (if t then Some (from, trade_between number (Auction u.auction u.stage) u.price (to - from) Buy b.order s.order) else None) ≡ to - from
traded_if number u b s from to true e = refl
traded_if number u b s from to false e = grind (arith, nat_tests)

quantity_of_pair : (number : ℕ) (u : Uncrossing) (b s : Positioned) (from to : ℕ) → of_some (by_second quantity_of) (traded_units number u b s from to) ≡ to - from
quantity_of_pair number u b s from to = traded_if number u b s from to (nat_lt from to) refl

-- the units that two owners have in common, by what the second owns before the first one's units and up to their end
common : (first end other count volume : ℕ) → end ≤ volume → min first volume ≤ end
    → (min end (min (other + count) volume) - max first other) + owned_of other count (min first volume) ≡ owned_of other count end
common first end other count volume l m = omega arith

units_of_buy : (u : Uncrossing) → u.volume ≤ total u Sell → (number : ℕ) (b : Positioned)
    → sum_by (by_second quantity_of) (filter_map (trade_of_pair number u b) (parties u Sell)) ≡ owned_of (first_unit u Buy b) b.order.rest u.volume
units_of_buy u l number b =
    let queue = side_queue u Sell in
    let those = filter (at_price u Sell) queue in
    let first = first_unit u Buy b in
    let end = end_unit u Buy b in
    let ahead = before Sell queue in
    let lap = λ (s : Positioned). min end (end_unit u Sell s) - max first (first_unit u Sell s) in
    let pairs : sum_by (by_second quantity_of) (filter_map (trade_of_pair number u b) those) ≡ sum_by lap those =
    sum-filter_map (by_second quantity_of) (trade_of_pair number u b) those
    ∙ sum-each (λ (s : Positioned). of_some (by_second quantity_of) (trade_of_pair number u b s)) lap those
    (λ s. quantity_of_pair number u b s (max first (first_unit u Sell s)) (min end (end_unit u Sell s))) in
    let laps : sum_by (λ (s : Positioned). lap s + owned ahead units (min first u.volume) s) those ≡ sum_by (owned ahead units end) those =
    sum-each (λ (s : Positioned). lap s + owned ahead units (min first u.volume) s) (owned ahead units end) those
    (λ s. common first end (ahead s) (units s) u.volume (omega arith) (omega arith)) in
    let whole : sum_by (owned ahead units end) those ≡ end = row u Sell end (omega arith) in
    let front : sum_by (owned ahead units (min first u.volume)) those ≡ min first u.volume = row u Sell (min first u.volume) (omega arith) in
    let split = sum-add lap (owned ahead units (min first u.volume)) those in
    let of_parties : sum_by (by_second quantity_of) (filter_map (trade_of_pair number u b) (parties u Sell)) ≡ sum_by lap those =
    ap (λ (xs : List Positioned). sum_by (by_second quantity_of) (filter_map (trade_of_pair number u b) xs)) (parties_are u Sell) ∙ pairs in
    omega arith

pub allotted_within : (number : ℕ) (u : Uncrossing) → u.volume ≤ total u Buy → u.volume ≤ total u Sell → total_quantity (auction_trades number u) ≡ u.volume
allotted_within number u l m =
    let each = λ (b : Positioned). filter_map (trade_of_pair number u b) (parties u Sell) in
    let those = filter (at_price u Buy) (side_queue u Buy) in
    sum-in_order quantity_of (flat_map each (parties u Buy))
    ∙ sum-flat_map (by_second quantity_of) each (parties u Buy)
    ∙ ap (λ (xs : List Positioned). sum_by (λ (b : Positioned). sum_by (by_second quantity_of) (each b)) xs) (parties_are u Buy)
    ∙ sum-each (λ (b : Positioned). sum_by (by_second quantity_of) (each b)) (owned (before Buy (side_queue u Buy)) units u.volume) those (units_of_buy u m number)
    ∙ row u Buy u.volume l

pub side_is : (side other : Side) → same_side side other ≡ true → other ≡ side
side_is Buy Buy e = refl
side_is Buy Sell e = absurd (cc)
side_is Sell Buy e = absurd (cc)
side_is Sell Sell e = refl

standing_part : (stands accepts : Bool) (n m : ℕ) → stands ≡ true → n ≡ m → ◌≡◌ {A = ℕ} (if stands && accepts then n else 0) (if accepts then m else 0)
standing_part true true n m e f = f
standing_part true false n m e f = refl
standing_part false accepts n m e f = absurd (cc)

owned_part : (first count volume : ℕ) → min (first + count) volume - first ≡ owned_of first count volume
owned_part first count volume = omega arith

pub allotted_in_queue : (u : Uncrossing) (side : Side) (i : Positioned) → is_active_on (Call u.auction u.stage) side i ≡ true
    → allotted u i ≡ (if at_price u side i then owned (before side (side_queue u side)) units u.volume i else 0)
allotted_in_queue u side i e =
    let same = side_is side i.order.side (and_parts (is_active (Call u.auction u.stage) i.order.restriction) (same_side side i.order.side) e).1 in
    ap (λ (s : Side). if takes_part u s i then end_unit u s i - first_unit u s i else 0) same
    ∙ standing_part (is_active_on (Call u.auction u.stage) side i) (at_price u side i) (end_unit u side i - first_unit u side i) (owned_of (first_unit u side i) (units i) u.volume) e
    (owned_part (first_unit u side i) (units i) u.volume)

-- on each side what the orders are allotted sums to the volume
pub allotted_to_side : (u : Uncrossing) (side : Side) → u.volume ≤ total u side → sum_by (allotted u) (side_queue u side) ≡ u.volume
allotted_to_side u side l =
    let queue = side_queue u side in
    let each = λ (i : Positioned). if at_price u side i then owned (before side queue) units u.volume i else 0 in
    sum-same (allotted u) each queue
    (All-weaker (λ (i : Positioned). is_active_on (Call u.auction u.stage) side i ≡ true) (λ (i : Positioned). allotted u i ≡ each i) (allotted_in_queue u side) queue
    (filter_passes (is_active_on (Call u.auction u.stage) side) (positioned_from 0 u.orders)))
    ∙ sym (sum-filter (owned (before side queue) units u.volume) (at_price u side) queue) ∙ row u side u.volume l

pub within_side : (u : Uncrossing) (side : Side) → volume (Call u.auction u.stage) u.orders u.price ≡ u.volume → u.volume ≤ total u side
within_side u Buy e = omega arith
within_side u Sell e = omega arith

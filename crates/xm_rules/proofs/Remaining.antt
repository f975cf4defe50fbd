-- What is left of a time list after units were taken from its orders: which order each was, and that its units reach past the
-- volume of the call.
use Rattle.std.proofs.Common.{◌≡◌, ℕ, ◌+◌, ◌-◌, ◌<◌, ◌≤◌, suc, Bool, true, false, not, ◌&&◌, ◌||◌, cond, if◌then◌else◌, List, [], ◌∷◌, filter, map, All, Contains, refl, arith}
use Rattle.std.specs.Prelude.{nat_le, nat_lt}
use Rattle.std.proofs.lemmas.Bool.{and_parts, and_from, ltb-true}
use Rattle.std.proofs.lemmas.Bool.Decides.{nat_tests}
use Rattle.std.proofs.lemmas.List.Elements.{All-nil, All-cons, All-head, All-tail, All-map, All-filter, All-weaker, All-contains, All-contains_itself, filter_passes}
use Rattle.std.proofs.lemmas.List.Sums.{sum_by-le-sum_by}
use Rattle.xm_rules.specs.Active.{Positioned, active, is_active, is_active_on, positioned_from}
use Rattle.xm_rules.specs.Allotment.{Uncrossing, allotted, side_queue}
use Rattle.xm_rules.specs.Auction.{accepting}
use Rattle.xm_rules.specs.Orders.{accepts}
use Rattle.xm_rules.specs.Priority.{before, is_ahead, without_units}
use Rattle.xm_rules.specs.Sides.{same_side}
use Rattle.xm_rules.specs.declared.orders.Order.{Order}
use Rattle.xm_rules.specs.declared.orders.OrderKind.{OrderKind}
use Rattle.xm_rules.specs.declared.orders.OrderKind.TheVariants.{Market, Limit}
use Rattle.xm_rules.specs.declared.orders.Restriction.{Restriction}
use Rattle.xm_rules.specs.declared.orders.Restriction.TheVariants.{Free, OpeningOnly, AuctionsOnly, ClosingOnly}
use Rattle.xm_rules.specs.declared.orders.Side.{Side}
use Rattle.xm_rules.specs.declared.orders.Side.TheVariants.{Buy, Sell}
use Rattle.xm_rules.specs.declared.phases.Auction.{Auction}
use Rattle.xm_rules.specs.declared.phases.CallStage.{CallStage}
use Rattle.xm_rules.specs.declared.phases.Phase.{Phase}
use Rattle.xm_rules.specs.declared.phases.Phase.TheVariants.{Call, Continuous}
use Rattle.xm_rules.proofs.Ahead.{precedes}
use Rattle.xm_rules.proofs.Allotments.{allotted_in_queue, at_price, kinds_accept, total}
use Rattle.xm_rules.proofs.Queues.{units, if_le, within_those}
use Rattle.xm_rules.proofs.Units.{owned_of}

module _ {X : Type 0} (p : X → Bool) where
  kept_here : (x : X) (xs : List X) (b : Bool) → b ≡ true → Contains (cond b (x ∷ xs) xs) x
  kept_here x xs true e = (0, omega arith, refl)
  kept_here x xs false e = absurd (cc)

  kept_later : (x y : X) (xs : List X) (b : Bool) → Contains xs y → Contains (cond b (x ∷ xs) xs) y
  kept_later x y xs true at = (suc at.0, (let l = at.1 in omega arith), at.2)
  kept_later x y xs false at = at

  -- what passes a test is in the part that does
  pub passing_kept : (xs : List X) → All (λ y. p y ≡ true → Contains (filter p xs) y) xs
  passing_kept [] = All-nil (λ y. p y ≡ true → Contains (filter p []) y)
  passing_kept (x ∷ xs) =
      All-cons (λ y. p y ≡ true → Contains (filter p (x ∷ xs)) y) x xs (kept_here x (filter p xs) (p x))
      (All-weaker (λ y. p y ≡ true → Contains (filter p xs) y) (λ y. p y ≡ true → Contains (filter p (x ∷ xs)) y)
      (λ y h e. kept_later x y (filter p xs) (p x) (h e)) xs (passing_kept xs))

-- what holds of each order holds of each with its position
pub each_positioned : (P : Order → Type 0) (position : ℕ) (orders : List Order) → All P orders → All (λ (i : Positioned). P i.order) (positioned_from position orders)
each_positioned P position [] all = All-nil (λ (i : Positioned). P i.order)
each_positioned P position (o ∷ os) all =
    All-cons (λ (i : Positioned). P i.order) (record { position = position; order = o }) (positioned_from (position + 1) os) (All-head P o os all)
    (each_positioned P (position + 1) os (All-tail P o os all))

-- an order that is active in continuous trading was active in the call before it
active_in_call : (auction : Auction) (stage : CallStage) (r : Restriction) → is_active Continuous r ≡ true → is_active (Call auction stage) r ≡ true
active_in_call auction stage Free e = refl
active_in_call auction stage OpeningOnly e = absurd (cc)
active_in_call auction stage AuctionsOnly e = absurd (cc)
active_in_call auction stage ClosingOnly e = absurd (cc)

pub active_in_call_on : (auction : Auction) (stage : CallStage) (side : Side) (i : Positioned) → is_active_on Continuous side i ≡ true → is_active_on (Call auction stage) side i ≡ true
active_in_call_on auction stage side i e =
    let parts = and_parts (is_active Continuous i.order.restriction) (same_side side i.order.side) e in
    and_from (is_active (Call auction stage) i.order.restriction) (same_side side i.order.side) (active_in_call auction stage i.order.restriction parts.0) parts.1

pub is_on_side : (phase : Phase) (side : Side) (orders : List Order) (i : Positioned) → Contains (active phase side orders) i → is_active_on phase side i ≡ true
is_on_side phase side orders i at =
    All-contains (λ (j : Positioned). is_active_on phase side j ≡ true) (active phase side orders) i (filter_passes (is_active_on phase side) (positioned_from 0 orders)) at

pub joins_queue : (phase : Phase) (side : Side) (orders : List Order) (i : Positioned) → Contains (positioned_from 0 orders) i → is_active_on phase side i ≡ true
    → Contains (active phase side orders) i
joins_queue phase side orders i at e =
    All-contains (λ (j : Positioned). is_active_on phase side j ≡ true → Contains (active phase side orders) j) (positioned_from 0 orders) i
    (passing_kept (is_active_on phase side) (positioned_from 0 orders)) at e

-- an order without the units that were taken from it
abbrev pub lessened : (Positioned → ℕ) → Positioned → Order
lessened taken i = let o = i.order in record o { rest = o.rest - taken i }

abbrev pub has_rest : Order → Bool
has_rest o = nat_lt 0 o.rest

-- one of a list that is left, and the order that it was
pub record IsLessened (taken : Positioned → ℕ) (orders : List Order) (o : Order) : Type 0 where
  pub was : Positioned
  pub stood : Contains (positioned_from 0 orders) was
  pub same : o ≡ lessened taken was
  pub more : 0 < o.rest

some_left : (taken : Positioned → ℕ) (orders : List Order) → All (IsLessened taken orders) (without_units taken orders)
some_left taken orders =
    let ps = positioned_from 0 orders in
    let os = map (lessened taken) ps in
    let made : All (λ (o : Order). (i : Positioned) × Contains ps i × (o ≡ lessened taken i)) os =
    All-map (λ (o : Order). (i : Positioned) × Contains ps i × (o ≡ lessened taken i)) (lessened taken) ps
    (All-weaker (Contains ps) (λ (j : Positioned). (i : Positioned) × Contains ps i × (lessened taken j ≡ lessened taken i)) (λ j at. (j, at, refl)) ps (All-contains_itself ps)) in
    let from = All-filter has_rest (λ (o : Order). (i : Positioned) × Contains ps i × (o ≡ lessened taken i)) os made in
    let rests = filter_passes has_rest os in
    λ k d l. (let f = from k d l in record { was = f.0; stood = f.1; same = f.2; more = ltb-true 0 _ (rests k d l) })

pub is_lessened : (taken : Positioned → ℕ) (orders : List Order) (phase : Phase) (side : Side) (z : Positioned) → Contains (active phase side (without_units taken orders)) z
    → IsLessened taken orders z.order
is_lessened taken orders phase side z at =
    All-contains (λ (i : Positioned). IsLessened taken orders i.order) (active phase side (without_units taken orders)) z
    (All-filter (is_active_on phase side) (λ (i : Positioned). IsLessened taken orders i.order) (positioned_from 0 (without_units taken orders))
    (each_positioned (IsLessened taken orders) 0 (without_units taken orders) (some_left taken orders))) at

-- ---- units past a volume

buys_better : (p q x m n : ℕ) → nat_le x p ≡ true → nat_le x q ≡ false → (not (nat_le p q) || (not (not (nat_le q p)) && nat_lt m n)) ≡ true
buys_better p q x m n h e = grind (arith, nat_tests)

sells_better : (p q x m n : ℕ) → nat_le p x ≡ true → nat_le q x ≡ false → (not (nat_le q p) || (not (not (nat_le p q)) && nat_lt m n)) ≡ true
sells_better p q x m n h e = grind (arith, nat_tests)

-- an order that accepts a price is ahead of one that doesn't
accepting_ahead : (side : Side) (k : OrderKind) (m : ℕ) (l : OrderKind) (n x : ℕ) → accepts side k x ≡ true → accepts side l x ≡ false → precedes side k m l n ≡ true
accepting_ahead side k m Market n x h e = absurd (cc)
accepting_ahead side Market m (Limit q) n x h e = refl
accepting_ahead Buy (Limit p) m (Limit q) n x h e = buys_better p q x m n h e
accepting_ahead Sell (Limit p) m (Limit q) n x h e = sells_better p q x m n h e

all_ahead : (u : Uncrossing) (side : Side) (i : Positioned) → at_price u side i ≡ false → total u side ≤ before side (side_queue u side) i
all_ahead u side i e =
    sum_by-le-sum_by (λ (j : Positioned). if accepts side j.order.kind u.price then units j else 0) (λ (j : Positioned). if is_ahead side j i then units j else 0) (side_queue u side)
    (λ j. if_le (accepts side j.order.kind u.price) (is_ahead side j i) (units j) (λ h. accepting_ahead side j.order.kind j.position i.order.kind i.position u.price h e))

past_if : (u : Uncrossing) (side : Side) (i : Positioned) (taken first : ℕ) (b : Bool) → taken ≡ (if b then owned_of first (units i) u.volume else 0) → taken < units i
    → (b ≡ false → u.volume ≤ first) → u.volume < first + units i
past_if u side i taken first true e h other = omega (arith, e, h)
past_if u side i taken first false e h other = omega (arith, e, h, other refl)

-- an order of the call that isn't allotted all its units has units past the volume: these go to the orders ahead of it, and to it
pub left_past_volume : (u : Uncrossing) (side : Side) (i : Positioned) → u.volume ≤ total u side → Contains (side_queue u side) i → allotted u i < units i
    → u.volume < before side (side_queue u side) i + units i
left_past_volume u side i l at h =
    let e = allotted_in_queue u side i (is_on_side (Call u.auction u.stage) side u.orders i at) in
    past_if u side i (allotted u i) (before side (side_queue u side) i) (at_price u side i) e h (λ f. let a = all_ahead u side i f in omega (arith, a, l))

-- an order and those ahead of it accept each price that it accepts
pub accepted_with_ahead : (phase : Phase) (orders : List Order) (side : Side) (i : Positioned) (x : ℕ) → Contains (active phase side orders) i → accepts side i.order.kind x ≡ true
    → before side (active phase side orders) i + units i ≤ accepting phase orders side x
accepted_with_ahead phase orders side i x at e =
    within_those side (λ (j : Positioned). accepts side j.order.kind x) (active phase side orders) i
    (λ j h. kinds_accept side j.order.kind j.position i.order.kind i.position x h e) e at

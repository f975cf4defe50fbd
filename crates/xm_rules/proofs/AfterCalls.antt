-- After a call no two orders of the two sides meet.
use Rattle.std.proofs.Common.{◌≡◌, ℕ, ◌+◌, ◌-◌, ◌<◌, ◌≤◌, true, false, List, All, Contains, IfSome, Option, Some, None, refl, sym, ap, ◌∙◌, arith}
use Rattle.std.specs.Prelude.{nat_le}
use Rattle.std.proofs.lemmas.Bool.{false_from_ne_true}
use Rattle.std.proofs.lemmas.Bool.Decides.{nat_tests}
use Rattle.std.proofs.lemmas.List.Elements.{All-filter, All-weaker, All-contains, All-contains_itself}
use Rattle.xm_rules.specs.Active.{Positioned, active, is_active_on, limits, positioned_from}
use Rattle.xm_rules.specs.Allotment.{Uncrossing, allotted, orders_after_call}
use Rattle.xm_rules.specs.Auction.{accepting, auction_price, volume}
use Rattle.xm_rules.specs.Crossing.{NoneMeet}
use Rattle.xm_rules.specs.Orders.{accepts, limit_of, meets}
use Rattle.xm_rules.specs.Priority.{before}
use Rattle.xm_rules.specs.Quote.{best_limit}
use Rattle.xm_rules.specs.Sides.{best, opposite}
use Rattle.xm_rules.specs.State.{State, ranges, ref1}
use Rattle.xm_rules.specs.Step.{determined, stage_after, uncrossed_at}
use Rattle.xm_rules.specs.declared.orders.Order.{Order}
use Rattle.xm_rules.specs.declared.orders.OrderKind.{OrderKind}
use Rattle.xm_rules.specs.declared.orders.OrderKind.TheVariants.{Market, Limit}
use Rattle.xm_rules.specs.declared.orders.Side.{Side}
use Rattle.xm_rules.specs.declared.orders.Side.TheVariants.{Buy, Sell}
use Rattle.xm_rules.specs.declared.phases.Auction.{Auction}
use Rattle.xm_rules.specs.declared.phases.CallStage.{CallStage}
use Rattle.xm_rules.specs.declared.phases.Phase.{Phase}
use Rattle.xm_rules.specs.declared.phases.Phase.TheVariants.{Call, Continuous}
use Rattle.xm_rules.proofs.Allotments.{within_side}
use Rattle.xm_rules.proofs.CallTrades.{All-filter_map, call_of}
use Rattle.xm_rules.proofs.Choices.{best_has}
use Rattle.xm_rules.proofs.Remaining.{accepted_with_ahead, active_in_call_on, each_positioned, is_lessened, is_on_side, joins_queue, left_past_volume}
use Rattle.xm_rules.proofs.Prices.{greatest_volume, no_volume, volume_at_price}
use Rattle.xm_rules.proofs.Queues.{units}

-- a price at which two orders that meet can both be executed
record MeetingPrice (side : Side) (k l : OrderKind) : Type 0 where
  pub price : ℕ
  pub first : accepts side k price ≡ true
  pub second : accepts (opposite side) l price ≡ true

le_itself : (p : ℕ) → nat_le p p ≡ true
le_itself p = grind (arith, nat_tests)

own_limit : (side : Side) (p : ℕ) → accepts side (Limit p) p ≡ true
own_limit Buy p = le_itself p
own_limit Sell p = le_itself p

meeting_price : (side : Side) (k l : OrderKind) → meets side k l ≡ true → MeetingPrice side k l
meeting_price side k (Limit p) e = record { price = p; first = e; second = own_limit (opposite side) p }
meeting_price side (Limit q) Market e = record { price = q; first = own_limit side q; second = refl }
meeting_price side Market Market e = record { price = 0; first = refl; second = refl }

-- an order that is left by a call of so many units, as it was before: its units reach past these
record IsLeft (phase : Phase) (orders : List Order) (side : Side) (n : ℕ) (z : Positioned) : Type 0 where
  pub was : Positioned
  pub queued : Contains (active phase side orders) was
  pub kind : z.order.kind ≡ was.order.kind
  pub past : n < before side (active phase side orders) was + units was

volume_past : (phase : Phase) (orders : List Order) (side : Side) (n x : ℕ) → n < accepting phase orders side x → n < accepting phase orders (opposite side) x → n < volume phase orders x
volume_past phase orders Buy n x h i = omega arith
volume_past phase orders Sell n x h i = omega arith

-- so two that met could both be executed beside those ahead of them, at a price with more volume
never_meet : (phase : Phase) (orders : List Order) (side : Side) (n : ℕ) (i j : Positioned) → ((x : ℕ) → volume phase orders x ≤ n)
    → IsLeft phase orders side n i → IsLeft phase orders (opposite side) n j → meets side i.order.kind j.order.kind ≡ false
never_meet phase orders side n i j most a b =
    (λ t. meets side (a.kind t) (b.kind t))
    ∙ false_from_ne_true (meets side a.was.order.kind b.was.order.kind) (λ e.
    let m = meeting_price side a.was.order.kind b.was.order.kind e in
    let first = accepted_with_ahead phase orders side a.was m.price a.queued m.first in
    let second = accepted_with_ahead phase orders (opposite side) b.was m.price b.queued m.second in
    let p = a.past in
    let q = b.past in
    let more = volume_past phase orders side n m.price (omega (arith, first, p)) (omega (arith, second, q)) in
    omega (arith, more, most m.price))

-- where nothing was traded, each order has a unit
left_untraded : (auction : Auction) (stage : CallStage) (orders : List Order) (side : Side) (z : Positioned) → All (λ (o : Order). 1 ≤ o.rest) orders
    → Contains (active Continuous side orders) z → IsLeft (Call auction stage) orders side 0 z
left_untraded auction stage orders side z some at =
    let ps = positioned_from 0 orders in
    let on = is_active_on Continuous side in
    let stood : Contains ps z = All-contains (Contains ps) (active Continuous side orders) z (All-filter on (Contains ps) ps (All-contains_itself ps)) at in
    let more : 1 ≤ units z = All-contains (λ (i : Positioned). 1 ≤ i.order.rest) ps z (each_positioned (λ (o : Order). 1 ≤ o.rest) 0 orders some) stood in
    record {
      was = z;
      queued = joins_queue (Call auction stage) side orders z stood (active_in_call_on auction stage side z (is_on_side Continuous side orders z at));
      kind = refl;
      past = omega (arith, more);
    }

left_traded : (u : Uncrossing) (side : Side) (z : Positioned) → volume (Call u.auction u.stage) u.orders u.price ≡ u.volume
    → Contains (active Continuous side (orders_after_call u)) z → IsLeft (Call u.auction u.stage) u.orders side u.volume z
left_traded u side z e at =
    let h = is_lessened (allotted u) u.orders Continuous side z at in
    let on : is_active_on Continuous side h.was ≡ true =
    ap (λ (o : Order). is_active_on Continuous side (record { position = 0; order = o })) (sym h.same) ∙ is_on_side Continuous side (orders_after_call u) z at in
    let queued = joins_queue (Call u.auction u.stage) side u.orders h.was h.stood (active_in_call_on u.auction u.stage side h.was on) in
    let rest : z.order.rest ≡ units h.was - allotted u h.was = ap (λ (o : Order). o.rest) h.same in
    let more = h.more in
    record {
      was = h.was;
      queued = queued;
      kind = ap (λ (o : Order). o.kind) h.same;
      past = left_past_volume u side h.was (within_side u side e) queued (omega (arith, rest, more));
    }

none_traded : (s : State) (auction : Auction) (stage : CallStage) → All (λ (o : Order). 1 ≤ o.rest) s.orders → auction_price (Call auction stage) s.orders (ref1 s) ≡ None → NoneMeet s.orders
none_traded s auction stage some e = λ side i j at to.
    never_meet (Call auction stage) s.orders side 0 i j (no_volume (Call auction stage) s.orders (ref1 s) e)
    (left_untraded auction stage s.orders side i some at) (left_untraded auction stage s.orders (opposite side) j some to)

some_traded : (s : State) (u : Uncrossing) → auction_price (Call u.auction u.stage) u.orders (ref1 s) ≡ Some (u.price, u.volume) → NoneMeet (orders_after_call u)
some_traded s u e = λ side i j at to.
    let is = volume_at_price (Call u.auction u.stage) u.orders (ref1 s) u.price u.volume e in
    never_meet (Call u.auction u.stage) u.orders side u.volume i j (greatest_volume (Call u.auction u.stage) u.orders (ref1 s) u.price u.volume e)
    (left_traded u side i is at) (left_traded u (opposite side) j is to)

none_determined : (s : State) (u : Uncrossing) (next : Option CallStage) → auction_price (Call u.auction u.stage) u.orders (ref1 s) ≡ Some (u.price, u.volume)
    → (determined s u next).phase ≡ Continuous → NoneMeet (determined s u next).orders
none_determined s u None e h = some_traded s u e
none_determined s u (Some stage) e h = absurd (cc)

pub none_meet_after : (s : State) (auction : Auction) (stage : CallStage) (o : Option (ℕ × ℕ)) → auction_price (Call auction stage) s.orders (ref1 s) ≡ o
    → All (λ (o : Order). 1 ≤ o.rest) s.orders → (uncrossed_at s auction stage o).phase ≡ Continuous → NoneMeet (uncrossed_at s auction stage o).orders
none_meet_after s auction stage None e some h = none_traded s auction stage some e
none_meet_after s auction stage (Some priced) e some h = none_determined s (call_of s auction stage priced) (stage_after (ranges s) stage priced.0) e h

-- ---- the quote after it

apart_if : (sell buy : ℕ) → nat_le sell buy ≡ false → buy < sell
apart_if sell buy e = grind (arith, nat_tests)

-- below a limit that the order has, where it has one
limit_below : (k : OrderKind) (sell : ℕ) → meets Buy k (Limit sell) ≡ false → IfSome (limit_of k) (λ buy. buy < sell)
limit_below Market sell e = absurd (cc)
limit_below (Limit buy) sell e = apart_if sell buy e

limits_below : (orders : List Order) → NoneMeet orders → (j : Positioned) → Contains (active Continuous Sell orders) j → (sell : ℕ) → j.order.kind ≡ Limit sell
    → All (λ buy. buy < sell) (limits (active Continuous Buy orders))
limits_below orders none j to sell e =
    All-filter_map (λ buy. buy < sell) (λ (i : Positioned). limit_of i.order.kind) (active Continuous Buy orders)
    (All-weaker (Contains (active Continuous Buy orders)) (λ (i : Positioned). IfSome (limit_of i.order.kind) (λ buy. buy < sell))
    (λ i at. limit_below i.order.kind sell (ap (meets Buy i.order.kind) (sym e) ∙ none Buy i j at to)) (active Continuous Buy orders) (All-contains_itself (active Continuous Buy orders)))

below_each : (orders : List Order) (buy : ℕ) → NoneMeet orders → best Buy (limits (active Continuous Buy orders)) ≡ Some buy → All (λ sell. buy < sell) (limits (active Continuous Sell orders))
below_each orders buy none e =
    All-filter_map (λ sell. buy < sell) (λ (j : Positioned). limit_of j.order.kind) (active Continuous Sell orders)
    (All-weaker (Contains (active Continuous Sell orders)) (λ (j : Positioned). IfSome (limit_of j.order.kind) (λ sell. buy < sell))
    (λ j to. of_kind j to j.order.kind refl) (active Continuous Sell orders) (All-contains_itself (active Continuous Sell orders))) where
      of_kind : (j : Positioned) → Contains (active Continuous Sell orders) j → (k : OrderKind) → j.order.kind ≡ k → IfSome (limit_of k) (λ sell. buy < sell)
      of_kind j to Market f = tt
      of_kind j to (Limit sell) f = best_has (λ x. x < sell) Buy (limits (active Continuous Buy orders)) buy e (limits_below orders none j to sell f)

pub best_limits_apart : (t : State) (buy sell : ℕ) → t.phase ≡ Continuous → NoneMeet t.orders → best_limit t Buy ≡ Some buy → best_limit t Sell ≡ Some sell → buy < sell
best_limits_apart t buy sell phase none e f =
    let best_in = λ (side : Side) (p : Phase). best side (limits (active p side t.orders)) in
    best_has (λ x. buy < x) Sell (limits (active Continuous Sell t.orders)) sell (ap (best_in Sell) (sym phase) ∙ f) (below_each t.orders buy none (ap (best_in Buy) (sym phase) ∙ e))

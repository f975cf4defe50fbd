-- What the fills of a call say is left of their orders.
use Rattle.std.proofs.Common.{◌≡◌, ℕ, ◌+◌, ◌-◌, ◌≤◌, ◌==◌, min, max, Bool, true, false, ◌&&◌, if◌then◌else◌, cond, List, [], ◌∷◌, All, IfSome, Option, Some, None, get_or, sum_by, refl, arith}
use Rattle.std.specs.List.{filter_map, flat_map}
use Rattle.std.specs.Prelude.{nat_lt}
use Rattle.std.proofs.lemmas.Bool.{and_from, and_parts}
use Rattle.std.proofs.lemmas.List.Elements.{All-append, All-filter, All-head, All-nil, All-tail, filter_passes}
use Rattle.std.proofs.lemmas.List.Sums.{sum_by-cons}
use Rattle.xm_events.specs.Life.{taken}
use Rattle.xm_events.specs.Story.{determined_events, rest_in, uncross_events, uncross_at_events}
use Rattle.xm_events.specs.declared.events.Event.{Event}
use Rattle.xm_events.specs.declared.events.Event.TheVariants.{Began}
use Rattle.xm_rules.specs.Active.{Positioned, is_active, is_active_on, positioned_from}
use Rattle.xm_rules.specs.Allotment.{Uncrossing, allotted, auction_trades, end_unit, first_unit, orders_after_call, parties, side_queue, takes_part, trade_of_pair, traded_units}
use Rattle.xm_rules.specs.Auction.{auction_price}
use Rattle.xm_rules.specs.Orders.{accepts, is_named, trade_between}
use Rattle.xm_rules.specs.Sides.{same_side}
use Rattle.xm_rules.specs.State.{State, ranges, ref1}
use Rattle.xm_rules.specs.Step.{determined, next_phase, stage_after, traded, uncrossed, uncrossed_at}
use Rattle.xm_rules.specs.declared.orders.Order.{Order}
use Rattle.xm_rules.specs.declared.orders.Side.{Side}
use Rattle.xm_rules.specs.declared.orders.Side.TheVariants.{Buy, Sell}
use Rattle.xm_rules.specs.declared.orders.Stop.{Stop}
use Rattle.xm_rules.specs.declared.orders.Trade.{Trade}
use Rattle.xm_rules.specs.declared.orders.TradeKind.TheVariants as made
use Rattle.xm_rules.specs.declared.phases.Auction.{Auction}
use Rattle.xm_rules.specs.declared.phases.CallStage.{CallStage}
use Rattle.xm_rules.specs.declared.phases.Phase.{Phase}
use Rattle.xm_rules.specs.declared.phases.Phase.TheVariants.{Call}
use Rattle.xm_rules.proofs.Allotments.{side_is}
use Rattle.xm_rules.proofs.CallTrades.{All-filter_map, All-in_order, call_of}
use Rattle.xm_rules.proofs.OneName.{named, uses}
use Rattle.xm_rules.proofs.Remaining.{each_positioned}
use Rattle.xm_rules.proofs.Sums.{sum-add, sum-each}
use Rattle.xm_events.proofs.Conserved.{held}
use Rattle.xm_events.proofs.EachFill.{EachSays, Fits, fills_say}
use Rattle.xm_events.proofs.OneOfAName.{no_more_named, rest_is_all}
use Rattle.xm_events.proofs.Names.{each-counted, named-itself, names-apart}
use Rattle.xm_events.proofs.TestedSums.{sum-uncounted}

module _ {X Y : Type 0} (P : Y → Type 0) where
  -- what holds of each list that is made of one of a list holds of these together
  pub each-flat_map : (f : X → List Y) (xs : List X) → All (λ x. All P (f x)) xs → All P (flat_map f xs)
  each-flat_map f [] h = All-nil P
  each-flat_map f (x ∷ xs) h =
      All-append P (f x) (flat_map f xs) (All-head (λ y. All P (f y)) x xs h) (each-flat_map f xs (All-tail (λ y. All P (f y)) x xs h))

-- of these orders, the ones of a name on a side
abbrev on_side : Side → ℕ → ℕ → Order → ℕ
on_side side member reference o = cond (is_named member reference o && same_side side o.side) 1 0

-- there is an order of this one's name on a side
abbrev StandsOn : Side → List Order → Order → Type 0
StandsOn side orders o = 1 ≤ sum_by (on_side side o.member o.reference) orders

same_side-itself : (side : Side) → same_side side side ≡ true
same_side-itself Buy = refl
same_side-itself Sell = refl

-- each order stands on its own side
each_stands : (orders : List Order) → All (λ (o : Order). StandsOn o.side orders o) orders
each_stands =
    each-counted (λ (x y : Order). is_named x.member x.reference y && same_side x.side y.side)
    (λ o. and_from (is_named o.member o.reference o) (same_side o.side o.side) (named-itself o) (same_side-itself o.side))

two_sides : (b : Bool) (side : Side) → cond (b && same_side Buy side) 1 0 + cond (b && same_side Sell side) 1 0 ≡ cond b 1 0
two_sides true Buy = omega arith
two_sides true Sell = omega arith
two_sides false side = omega arith

-- an order of a name is on one side
by_sides : (member reference : ℕ) (orders : List Order)
    → sum_by (on_side Buy member reference) orders + sum_by (on_side Sell member reference) orders ≡ sum_by (named member reference) orders
by_sides member reference orders =
    omega (
      arith,
      sum-add (on_side Buy member reference) (on_side Sell member reference) orders,
      sum-each (λ (o : Order). on_side Buy member reference o + on_side Sell member reference o) (named member reference) orders
          (λ o. two_sides (is_named member reference o) o.side),
    )

-- the parties of a side stand on it
each_party : (u : Uncrossing) (side : Side) → All (λ (i : Positioned). StandsOn side u.orders i.order) (parties u side)
each_party u side =
    let on = is_active_on (Call u.auction u.stage) side in
    let stands = λ (i : Positioned). StandsOn i.order.side u.orders i.order in
    let part = All-filter (takes_part u side) stands (side_queue u side)
    (All-filter on stands (positioned_from 0 u.orders) (each_positioned (λ (o : Order). StandsOn o.side u.orders o) 0 u.orders (each_stands u.orders))) in
    λ k d l.
    let i = get_or (parties u side) k d in
    let taking = and_parts (on i) (accepts side i.order.kind u.price) (filter_passes (takes_part u side) (side_queue u side) k d l) in
    let same = side_is side i.order.side (and_parts (is_active (Call u.auction u.stage) i.order.restriction) (same_side side i.order.side) taking.0).1 in
    stands_there i.order (part k d l) same
  where
    stands_there : (o : Order) → StandsOn o.side u.orders o → o.side ≡ side → StandsOn side u.orders o
    stands_there o h same =
        let e : sum_by (on_side o.side o.member o.reference) u.orders ≡ sum_by (on_side side o.member o.reference) u.orders = (λ k. sum_by (on_side (same k) o.member o.reference) u.orders) in
        omega arith

module _ (s : State) (auction : Auction) (stage : CallStage) (priced : ℕ × ℕ) (names : (member reference : ℕ) → uses member reference s ≤ 1) where
  abbrev u : Uncrossing
  u = call_of s auction stage priced

  abbrev after : List Event
  after = Began (next_phase auction) ∷ []

  abbrev final : ℕ → ℕ → ℕ
  final member reference = held member reference (traded s u)

  abbrev left_so : ℕ → ℕ → ℕ
  left_so = rest_in (orders_after_call u)

  -- a name that an order has, has no stop
  left_is : (member reference : ℕ) → 1 ≤ sum_by (named member reference) s.orders → left_so member reference ≡ sum_by (taken member reference) after + final member reference
  left_is member reference some =
      let l = names member reference in
      omega (
        arith,
        rest_is_all member reference (orders_after_call u) (omega (arith, l, no_more_named member reference (allotted u) s.orders)),
        sum_by-cons (taken member reference) (Began (next_phase auction)) [],
        sum-uncounted (λ (stop : Stop). (stop.member == member) && (stop.reference == reference)) (λ (stop : Stop). stop.quantity) s.stops (omega arith),
      )

  of_party : (side : Side) (o : Order) → StandsOn side s.orders o → left_so o.member o.reference ≡ sum_by (taken o.member o.reference) after + final o.member o.reference
  of_party Buy o stands = left_is o.member o.reference (omega (arith, stands, by_sides o.member o.reference s.orders))
  of_party Sell o stands = left_is o.member o.reference (omega (arith, stands, by_sides o.member o.reference s.orders))

  -- a buy and a sell have two names
  differ : (b x : Order) → StandsOn Buy s.orders b → StandsOn Sell s.orders x → x.member ≡ b.member → x.reference ≡ b.reference → ⊥
  differ b x buys sells e f =
      let same : sum_by (on_side Sell x.member x.reference) s.orders ≡ sum_by (on_side Sell b.member b.reference) s.orders = (λ k. sum_by (on_side Sell (e k) (f k)) s.orders) in
      let l = names b.member b.reference in
      absurd (omega (arith, by_sides b.member b.reference s.orders))

  -- a trade of a pair tells what is left of both
  pair_fits : (number from to : ℕ) (b x : Positioned) → StandsOn Buy s.orders b.order → StandsOn Sell s.orders x.order
      → IfSome (traded_units number u b x from to) (λ (y : ℕ × Trade). Fits left_so final after y.1)
  pair_fits number from to b x buys sells = by (nat_lt from to) where
    by : (t : Bool) → IfSome (if t then Some (from, trade_between number (made.Auction u.auction u.stage) u.price (to - from) Buy b.order x.order) else None) (λ (y : ℕ × Trade). Fits left_so final after y.1)
    by true =
        record {
          apart = names-apart x.order.member x.order.reference b.order.member b.order.reference (differ b.order x.order buys sells);
          buyer = of_party Buy b.order buys;
          seller = of_party Sell x.order sells;
        }
    by false = tt

  each_fits : (number : ℕ) → All (Fits left_so final after) (auction_trades number u)
  each_fits number =
      let with_sells = λ (b : Positioned). filter_map (trade_of_pair number u b) (parties u Sell) in
      All-in_order (Fits left_so final after) (flat_map with_sells (parties u Buy))
      (each-flat_map (λ (y : ℕ × Trade). Fits left_so final after y.1) with_sells (parties u Buy)
      (λ j e m. let b = get_or (parties u Buy) j e in
      All-filter_map (λ (y : ℕ × Trade). Fits left_so final after y.1) (trade_of_pair number u b) (parties u Sell)
      (λ k d l. let x = get_or (parties u Sell) k d in
      pair_fits number (max (first_unit u Buy b) (first_unit u Sell x)) (min (end_unit u Buy b) (end_unit u Sell x)) b x (each_party u Buy j e m) (each_party u Sell k d l))))

  -- so do the fills of the call
  determining_says : (next : Option CallStage) → EachSays (λ member reference. held member reference (determined s u next)) (determined_events s u next)
  determining_says None = fills_say left_so final (auction_trades (s.sweeps + 1) u) after (each_fits (s.sweeps + 1)) (tt, tt)
  determining_says (Some later) = (tt, (tt, tt))

priced_says : (s : State) (auction : Auction) (stage : CallStage) (priced : Option (ℕ × ℕ)) → ((member reference : ℕ) → uses member reference s ≤ 1)
    → EachSays (λ member reference. held member reference (uncrossed_at s auction stage priced)) (uncross_at_events s auction stage priced)
priced_says s auction stage None names = (tt, tt)
priced_says s auction stage (Some priced) names = determining_says s auction stage priced names (stage_after (ranges s) stage priced.0)

pub uncrossing_says : (s : State) (phase : Phase) → ((member reference : ℕ) → uses member reference s ≤ 1)
    → EachSays (λ member reference. held member reference (uncrossed s phase)) (uncross_events s phase)
uncrossing_says s (Call auction stage) names = priced_says s auction stage (auction_price (Call auction stage) s.orders (ref1 s)) names
uncrossing_says s _ names = tt

-- How many trades a sweep makes, and how much they come to.
use Rattle.std.proofs.Common.{◌≡◌, ℕ, ◌+◌, ◌-◌, ◌≤◌, min, Bool, true, false, if◌then◌else◌, List, [], ◌∷◌, filter, map, length, get_or, All, refl, arith}
use Rattle.std.specs.Prelude.{nat_lt}
use Rattle.std.proofs.lemmas.List.{length-map}
use Rattle.std.proofs.lemmas.List.Elements.{All-filter, All-map, filter_passes}
use Rattle.std.proofs.lemmas.List.Sums.{count_by-le-length, length-filter}
use Rattle.xm_rules.specs.Active.{Positioned, positioned_from}
use Rattle.xm_rules.specs.Orders.{trade_between}
use Rattle.xm_rules.specs.Priority.{without_units}
use Rattle.xm_rules.specs.Sweep.{Sweep, fill, is_executable, meet_price, orders_after_sweep, queue, sweep_trades, trade_with, units_before}
use Rattle.xm_rules.specs.declared.orders.Order.{Order}
use Rattle.xm_rules.specs.declared.orders.Side.{Side}
use Rattle.xm_rules.specs.declared.orders.Side.TheVariants.{Buy, Sell}
use Rattle.xm_rules.specs.declared.orders.Trade.{Trade}
use Rattle.xm_rules.specs.declared.orders.TradeKind.{TradeKind}
use Rattle.xm_rules.specs.declared.orders.TradeKind.TheVariants as made
use Rattle.xm_rules.proofs.CallTrades.{All-in_order}

-- ---- how many

placed_length : (k : ℕ) (orders : List Order) → length (positioned_from k orders) ≡ length orders
placed_length k [] = refl
placed_length k (o ∷ os) = omega (arith, placed_length (k + 1) os)

filter_shorter : {X : Type 0} (p : X → Bool) (xs : List X) → length (filter p xs) ≤ length xs
filter_shorter p xs = omega (arith, length-filter p xs, count_by-le-length p xs)

-- taking units from the orders of a list leaves no more orders
pub no_more_orders : (taken : Positioned → ℕ) (orders : List Order) → length (without_units taken orders) ≤ length orders
no_more_orders taken orders =
    let lessened = λ (i : Positioned). (let o = i.order in let p : Order = record o { rest = o.rest - taken i } in p) in
    omega (
      arith,
      filter_shorter (λ (o : Order). nat_lt 0 o.rest) (map lessened (positioned_from 0 orders)),
      length-map (positioned_from 0 orders) lessened,
      placed_length 0 orders,
    )

pub sweep_leaves_no_more : (w : Sweep) → length (orders_after_sweep w) ≤ length w.orders
sweep_leaves_no_more w = no_more_orders (fill w) w.orders

-- ---- how large

abbrev numbered : ℕ → Sweep → Positioned → ℕ × Trade
numbered number w i = (units_before w i, trade_with number w i)

-- what holds of the trade with each order that is filled holds of each trade
pub each_sweep_trade : (P : Trade → Type 0) (number : ℕ) (w : Sweep) → All (λ (i : Positioned). nat_lt 0 (fill w i) ≡ true → P (trade_with number w i)) (queue w)
    → All P (sweep_trades number w)
each_sweep_trade P number w h =
    let some = λ (i : Positioned). nat_lt 0 (fill w i) in
    let filling = filter some (queue w) in
    let kept = All-filter some (λ (i : Positioned). some i ≡ true → P (trade_with number w i)) (queue w) h in
    All-in_order P (map (numbered number w) filling)
    (All-map (λ (x : ℕ × Trade). P x.1) (numbered number w) filling (λ k d l. kept k d l (filter_passes some (queue w) k d l)))

sized_between : (n number : ℕ) (kind : TradeKind) (price quantity : ℕ) (side : Side) (o i : Order) → quantity ≤ n → (trade_between number kind price quantity side o i).quantity ≤ n
sized_between n number kind price quantity Buy o i h = h
sized_between n number kind price quantity Sell o i h = h

within_incoming : (b : Bool) (rest incoming ahead : ℕ) → (if b then min rest (incoming - ahead) else 0) ≤ incoming
within_incoming true rest incoming ahead = omega arith
within_incoming false rest incoming ahead = omega arith

-- no trade is larger than the incoming order
pub sweep_trades_sized : (number : ℕ) (w : Sweep) → All (λ (t : Trade). t.quantity ≤ w.incoming.rest) (sweep_trades number w)
sweep_trades_sized number w =
    each_sweep_trade (λ (t : Trade). t.quantity ≤ w.incoming.rest) number w
    (λ k d l e. (let i = get_or (queue w) k d in
    sized_between w.incoming.rest number made.Continuous (meet_price w i) (fill w i) w.incoming.side w.incoming i.order
    (within_incoming (is_executable w i) i.order.rest w.incoming.rest (units_before w i))))

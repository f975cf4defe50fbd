-- How much the trades of a call come to.
use Rattle.std.proofs.Common.{◌≡◌, ℕ, ◌+◌, ◌*◌, ◌-◌, ◌≤◌, min, max, Bool, true, false, if◌then◌else◌, List, [], ◌∷◌, get_or, length, All, IfSome, Some, None, sym, ap, ◌∙◌, arith}
use Rattle.std.specs.List.{filter_map, flat_map}
use Rattle.std.specs.Prelude.{nat_lt}
use Rattle.std.proofs.lemmas.List.Elements.{All-nil, All-cons, All-head, All-tail, All-append, All-filter}
use Rattle.std.proofs.Math.Nat.{mul-zero}
use Rattle.std.proofs.lemmas.Nat.{mul-le}
use Rattle.std.proofs.lemmas.List.Sums.{sum_by-cons}
use Rattle.xm_rules.specs.Active.{Positioned, is_active_on, positioned_from}
use Rattle.xm_rules.specs.Allotment.{Uncrossing, auction_trades, end_unit, first_unit, parties, side_queue, takes_part, trade_of_pair, traded_units}
use Rattle.xm_rules.specs.Orders.{trade_between}
use Rattle.xm_rules.specs.Sums.{money_of, total_money, total_quantity}
use Rattle.xm_rules.specs.declared.orders.Order.{Order}
use Rattle.xm_rules.specs.declared.orders.Side.TheVariants.{Buy, Sell}
use Rattle.xm_rules.specs.declared.orders.Trade.{Trade}
use Rattle.xm_rules.specs.declared.orders.TradeKind.TheVariants as made
use Rattle.xm_rules.specs.declared.phases.Phase.TheVariants.{Call}
use Rattle.xm_ticks.specs.declared.numbers.TheConstants.{MAX_PRICE, MAX_QUANTITY}
use Rattle.xm_rules.proofs.CallTrades.{All-filter_map, All-in_order}

abbrev HasRest : ℕ → Positioned → Type 0
HasRest n i = i.order.rest ≤ n

all_placed : (n k : ℕ) (orders : List Order) → All (λ (o : Order). o.rest ≤ n) orders → All (HasRest n) (positioned_from k orders)
all_placed n k [] h = All-nil (HasRest n)
all_placed n k (o ∷ os) h =
    All-cons (HasRest n) (record { position = k; order = o }) (positioned_from (k + 1) os) (All-head (λ (o : Order). o.rest ≤ n) o os h) (all_placed n (k + 1) os (All-tail (λ (o : Order). o.rest ≤ n) o os h))

pub all_of_lists : {X Y : Type 0} (P : Y → Type 0) (f : X → List Y) (xs : List X) → All (λ x. All P (f x)) xs → All P (flat_map f xs)
all_of_lists P f [] h = All-nil P
all_of_lists P f (x ∷ xs) h =
    All-append P (f x) (flat_map f xs) (All-head (λ y. All P (f y)) x xs h) (all_of_lists P f xs (All-tail (λ y. All P (f y)) x xs h))

module _ (n number : ℕ) (u : Uncrossing) where
  abbrev IsSized : ℕ × Trade → Type 0
  IsSized x = x.1.quantity ≤ n

  sized_if : (b s : Positioned) (from to : ℕ) → to - from ≤ n → IfSome (traded_units number u b s from to) IsSized
  sized_if b s from to few = by (nat_lt from to) where
    by : (t : Bool) → IfSome (if t then Some (from, trade_between number (made.Auction u.auction u.stage) u.price (to - from) Buy b.order s.order) else None) IsSized
    by true = few
    by false = tt

  within_rest : (first other end_other rest volume : ℕ) → rest ≤ n → min (min (first + rest) volume) end_other - max first other ≤ n
  within_rest first other end_other rest volume few = omega arith

  -- no trade is larger than the largest order
  pub trades_sized : All (λ (o : Order). o.rest ≤ n) u.orders → All (λ (t : Trade). t.quantity ≤ n) (auction_trades number u)
  trades_sized few =
      let buys : All (HasRest n) (parties u Buy) =
      All-filter (takes_part u Buy) (HasRest n) (side_queue u Buy) (All-filter (is_active_on (Call u.auction u.stage) Buy) (HasRest n) (positioned_from 0 u.orders) (all_placed n 0 u.orders few)) in
      let with_sells = λ (b : Positioned). filter_map (trade_of_pair number u b) (parties u Sell) in
      All-in_order (λ (t : Trade). t.quantity ≤ n) (flat_map with_sells (parties u Buy))
      (all_of_lists IsSized with_sells (parties u Buy)
      (λ k d l. (let b = get_or (parties u Buy) k d in
      All-filter_map IsSized (trade_of_pair number u b) (parties u Sell)
      (λ k' d' l'. (let s = get_or (parties u Sell) k' d' in
      sized_if b s (max (first_unit u Buy b) (first_unit u Sell s)) (min (end_unit u Buy b) (end_unit u Sell s))
      (within_rest (first_unit u Buy b) (first_unit u Sell s) (end_unit u Sell s) b.order.rest u.volume (buys k d l)))))))

-- trades at one price come to the price for each unit
pub money_at : (p : ℕ) (ts : List Trade) → All (λ (t : Trade). t.price ≡ p) ts → total_money ts ≡ p * total_quantity ts
money_at p [] h = sym (mul-zero p)
money_at p (t ∷ ts) h =
    let first = All-head (λ (t : Trade). t.price ≡ p) t ts h in
    let rest = money_at p ts (All-tail (λ (t : Trade). t.price ≡ p) t ts h) in
    sum_by-cons money_of t ts ∙ (λ i. first i * t.quantity + rest i) ∙ sym (distributes p t.quantity (total_quantity ts)) ∙ ap (λ (q : ℕ). p * q) (sym (sum_by-cons (λ (t : Trade). t.quantity) t ts))
  where
    distributes : (p q r : ℕ) → p * (q + r) ≡ p * q + p * r
    distributes p q r = omega arith

-- trades whose quantities are in range, and those whose prices are
pub quantity_within : (ts : List Trade) → All (λ (t : Trade). t.quantity ≤ MAX_QUANTITY) ts → total_quantity ts ≤ MAX_QUANTITY * length ts
quantity_within [] h = omega arith
quantity_within (t ∷ ts) h =
    let first : t.quantity ≤ MAX_QUANTITY = All-head (λ (t : Trade). t.quantity ≤ MAX_QUANTITY) t ts h in
    omega (arith, first, quantity_within ts (All-tail (λ (t : Trade). t.quantity ≤ MAX_QUANTITY) t ts h), sum_by-cons (λ (t : Trade). t.quantity) t ts)

pub money_within : (ts : List Trade) → All (λ (t : Trade). t.price ≤ MAX_PRICE) ts → total_money ts ≤ MAX_PRICE * total_quantity ts
money_within [] h = omega arith
money_within (t ∷ ts) h =
    let first : t.price ≤ MAX_PRICE = All-head (λ (t : Trade). t.price ≤ MAX_PRICE) t ts h in
    let one : t.price * t.quantity ≤ MAX_PRICE * t.quantity = mul-le t.price t.quantity MAX_PRICE t.quantity first (omega arith) in
    omega (arith, one, money_within ts (All-tail (λ (t : Trade). t.price ≤ MAX_PRICE) t ts h), sum_by-cons money_of t ts, sum_by-cons (λ (t : Trade). t.quantity) t ts)

-- The trades of a call: each is at its price and marked with it, and an end of the call adds them to those before.
use Rattle.std.proofs.Common.{◌≡◌, ℕ, ◌+◌, ◌-◌, min, max, Bool, true, false, if◌then◌else◌, List, [], ◌∷◌, ◌++◌, length, get_or, drop, All, IfSome, Option, Some, None, refl, sym, ap, subst, ◌∙◌, append-nil, drop_at}
use Rattle.std.proofs.Math.Seq.{drop-length}
use Rattle.std.specs.List.{filter_map, flat_map, cons_option}
use Rattle.std.specs.Prelude.{nat_le, nat_lt, unwrap_or}
use Rattle.std.proofs.lemmas.List.Elements.{All-nil, All-cons, All-head, All-tail, All-append, All-map, All-weaker}
use Rattle.xm_rules.specs.Active.{Positioned}
use Rattle.xm_rules.specs.Allotment.{Uncrossing, auction_trades, end_unit, first_unit, parties, trade_of_pair, traded_units}
use Rattle.xm_rules.specs.Orders.{trade_between}
use Rattle.xm_rules.specs.Priority.{insert_in_order, sorted, in_order}
use Rattle.xm_rules.specs.State.{State, inside_both, inside_wide, ranges}
use Rattle.xm_rules.specs.Step.{determined, new_trades, stage_after, traded, uncrossed_at}
use Rattle.xm_rules.specs.declared.orders.Side.TheVariants.{Buy, Sell}
use Rattle.xm_rules.specs.declared.orders.Trade.{Trade}
use Rattle.xm_rules.specs.declared.orders.TradeKind.TheVariants as made
use Rattle.xm_rules.specs.declared.phases.Auction.{Auction}
use Rattle.xm_rules.specs.declared.phases.CallStage.{CallStage}
use Rattle.xm_rules.specs.declared.phases.CallStage.TheVariants.{Ordinary, Interrupted, Extended}

module _ {Y : Type 0} (P : Y → Type 0) where
  given_if : (o : Option Y) (ys : List Y) → IfSome o P → All P ys → All P (cons_option o ys)
  given_if None ys h all = all
  given_if (Some y) ys h all = All-cons P y ys h all

module _ {X Y : Type 0} (P : Y → Type 0) where
  pub All-filter_map : (f : X → Option Y) (xs : List X) → All (λ x. IfSome (f x) P) xs → All P (filter_map f xs)
  All-filter_map f [] h = All-nil P
  All-filter_map f (x ∷ xs) h = given_if P (f x) (filter_map f xs) (All-head (λ y. IfSome (f y) P) x xs h) (All-filter_map f xs (All-tail (λ y. IfSome (f y) P) x xs h))

  pub All-flat_map : (f : X → List Y) (xs : List X) → ((x : X) → All P (f x)) → All P (flat_map f xs)
  All-flat_map f [] h = All-nil P
  All-flat_map f (x ∷ xs) h = All-append P (f x) (flat_map f xs) (h x) (All-flat_map f xs h)

module _ {A : Type 0} (P : A → Type 0) where
  abbrev Second : ℕ × A → Type 0
  Second x = P x.1

  inserted_if : (b : Bool) (x y : ℕ × A) (ys zs : List (ℕ × A)) → Second x → Second y → All Second ys → All Second zs → All Second (if b then x ∷ y ∷ ys else y ∷ zs)
  inserted_if true x y ys zs h i all some = All-cons Second x (y ∷ ys) h (All-cons Second y ys i all)
  inserted_if false x y ys zs h i all some = All-cons Second y zs i some

  inserted : (x : ℕ × A) (ys : List (ℕ × A)) → Second x → All Second ys → All Second (insert_in_order x ys)
  inserted x [] h all = All-cons Second x [] h all
  inserted x (y ∷ ys) h all =
      inserted_if (nat_le x.0 y.0) x y ys (insert_in_order x ys) h (All-head Second y ys all) (All-tail Second y ys all) (inserted x ys h (All-tail Second y ys all))

  all_sorted : (xs : List (ℕ × A)) → All Second xs → All Second (sorted xs)
  all_sorted [] all = all
  all_sorted (x ∷ xs) all = inserted x (sorted xs) (All-head Second x xs all) (all_sorted xs (All-tail Second x xs all))

  -- what holds of each of a list holds of each when they are put in order
  pub All-in_order : (xs : List (ℕ × A)) → All (λ (x : ℕ × A). P x.1) xs → All P (in_order xs)
  All-in_order xs all = All-map P (λ (x : ℕ × A). x.1) (sorted xs) (all_sorted xs all)

-- at the price of a call, and marked with it
pub record IsOfCall (u : Uncrossing) (t : Trade) : Type 0 where
  pub price : t.price ≡ u.price
  pub kind : t.kind ≡ made.Auction u.auction u.stage

pair_if : (number : ℕ) (u : Uncrossing) (b s : Positioned) (from to : ℕ) → IfSome (traded_units number u b s from to) (λ (x : ℕ × Trade). IsOfCall u x.1)
pair_if number u b s from to = by (nat_lt from to) where
  by : (t : Bool) → IfSome (if t then Some (from, trade_between number (made.Auction u.auction u.stage) u.price (to - from) Buy b.order s.order) else None) (λ (x : ℕ × Trade). IsOfCall u x.1)
  by true = record { price = refl; kind = refl }
  by false = tt

pub trades_of_call : (number : ℕ) (u : Uncrossing) → All (IsOfCall u) (auction_trades number u)
trades_of_call number u =
    let with_sells = λ (b : Positioned). filter_map (trade_of_pair number u b) (parties u Sell) in
    All-in_order (IsOfCall u) (flat_map with_sells (parties u Buy))
    (All-flat_map (λ (x : ℕ × Trade). IsOfCall u x.1) with_sells (parties u Buy)
    (λ b. All-filter_map (λ (x : ℕ × Trade). IsOfCall u x.1) (trade_of_pair number u b) (parties u Sell)
    (λ k d l. (let s = get_or (parties u Sell) k d in pair_if number u b s (max (first_unit u Buy b) (first_unit u Sell s)) (min (end_unit u Buy b) (end_unit u Sell s))))))

-- a later state has the trades of an earlier one and then others, of each of which something holds
pub record Adds (P : Trade → Type 0) (s t : State) : Type 0 where
  pub more : List Trade
  pub trades : t.trades ≡ s.trades ++ more
  pub each : All P more

more_are : (P : Trade → Type 0) (s t : State) (a : Adds P s t) → new_trades s t ≡ a.more
more_are P s t a = ap (λ (ts : List Trade). drop (length s.trades) ts) a.trades ∙ drop_at s.trades a.more (length s.trades) refl

pub new_trades_follow : (P : Trade → Type 0) (s t : State) → Adds P s t → t.trades ≡ s.trades ++ new_trades s t
new_trades_follow P s t a = a.trades ∙ ap (λ (ts : List Trade). s.trades ++ ts) (sym (more_are P s t a))

pub each_new_trade : (P : Trade → Type 0) (s t : State) → Adds P s t → All P (new_trades s t)
each_new_trade P s t a = subst (All P) (sym (more_are P s t a)) a.each

pub adds_none : (P : Trade → Type 0) (s t : State) → t.trades ≡ s.trades → Adds P s t
adds_none P s t e = record { more = []; trades = e ∙ sym (append-nil s.trades); each = All-nil P }

adds_traded : (P : Trade → Type 0) (s : State) (u : Uncrossing) → ((t : Trade) → IsOfCall u t → P t) → Adds P s (traded s u)
adds_traded P s u h = record { more = auction_trades (s.sweeps + 1) u; trades = refl; each = All-weaker (IsOfCall u) P h (auction_trades (s.sweeps + 1) u) (trades_of_call (s.sweeps + 1) u) }

adds_determined : (P : Trade → Type 0) (s : State) (u : Uncrossing) (next : Option CallStage) → (next ≡ None → (t : Trade) → IsOfCall u t → P t) → Adds P s (determined s u next)
adds_determined P s u None h = adds_traded P s u (h refl)
adds_determined P s u (Some stage) h = adds_none P s (determined s u (Some stage)) refl

-- no stage follows on a test that is passed
pub passed-where-none : (b : Bool) (stage : CallStage) → (if b then None else Some stage) ≡ None → b ≡ true
passed-where-none true stage e = refl
passed-where-none false stage e = absurd (cc)

-- the call of an end that has a price
abbrev pub call_of : State → Auction → CallStage → ℕ × ℕ → Uncrossing
call_of s auction stage priced = record { auction = auction; stage = stage; orders = s.orders; price = priced.0; volume = priced.1 }

-- whatever holds of each trade of the call holds of the trades that its end adds
pub end_adds : (P : Trade → Type 0) (s : State) (auction : Auction) (stage : CallStage) (o : Option (ℕ × ℕ))
    → IfSome o (λ priced. (t : Trade) → IsOfCall (call_of s auction stage priced) t → P t) → Adds P s (uncrossed_at s auction stage o)
end_adds P s auction stage None h = adds_none P s (uncrossed_at s auction stage None) refl
end_adds P s auction stage (Some priced) h = adds_determined P s (call_of s auction stage priced) (stage_after (ranges s) stage priced.0) (λ e. h)

pub adds_marked : (s : State) (auction : Auction) (stage : CallStage) (o : Option (ℕ × ℕ)) → Adds (λ (t : Trade). t.kind ≡ made.Auction auction stage) s (uncrossed_at s auction stage o)
adds_marked s auction stage o = end_adds (λ (t : Trade). t.kind ≡ made.Auction auction stage) s auction stage o (each o) where
  each : (o : Option (ℕ × ℕ)) → IfSome o (λ priced. (t : Trade) → IsOfCall (call_of s auction stage priced) t → t.kind ≡ made.Auction auction stage)
  each None = tt
  each (Some priced) = λ t h. h.kind

pub adds_at_price : (s : State) (auction : Auction) (stage : CallStage) (o : Option (ℕ × ℕ)) (price traded_there : ℕ) → o ≡ Some (price, traded_there)
    → Adds (λ (t : Trade). t.price ≡ price) s (uncrossed_at s auction stage o)
adds_at_price s auction stage o price traded_there e = end_adds (λ (t : Trade). t.price ≡ price) s auction stage o (each o e) where
  each : (o : Option (ℕ × ℕ)) → o ≡ Some (price, traded_there) → IfSome o (λ priced. (t : Trade) → IsOfCall (call_of s auction stage priced) t → t.price ≡ price)
  each None e = tt
  each (Some priced) e = λ t h. h.price ∙ ap (λ (x : Option (ℕ × ℕ)). (unwrap_or x (0, 0)).0) e

pub no_new_trades : (s : State) (auction : Auction) (stage : CallStage) (o : Option (ℕ × ℕ)) → o ≡ None → new_trades s (uncrossed_at s auction stage o) ≡ []
no_new_trades s auction stage None e = drop-length s.trades
no_new_trades s auction stage (Some priced) e = absurd (cc)

pub adds_inside_both : (s : State) (auction : Auction) (o : Option (ℕ × ℕ)) → Adds (λ (t : Trade). inside_both (ranges s) t.price ≡ true) s (uncrossed_at s auction Ordinary o)
adds_inside_both s auction None = adds_none _ s (uncrossed_at s auction Ordinary None) refl
adds_inside_both s auction (Some priced) =
    adds_determined (λ (t : Trade). inside_both (ranges s) t.price ≡ true) s (call_of s auction Ordinary priced) (stage_after (ranges s) Ordinary priced.0)
    (λ e t h. ap (inside_both (ranges s)) h.price ∙ passed-where-none (inside_both (ranges s) priced.0) Interrupted e)

pub adds_inside_wide : (s : State) (auction : Auction) (o : Option (ℕ × ℕ)) → Adds (λ (t : Trade). inside_wide (ranges s) t.price ≡ true) s (uncrossed_at s auction Interrupted o)
adds_inside_wide s auction None = adds_none _ s (uncrossed_at s auction Interrupted None) refl
adds_inside_wide s auction (Some priced) =
    adds_determined (λ (t : Trade). inside_wide (ranges s) t.price ≡ true) s (call_of s auction Interrupted priced) (stage_after (ranges s) Interrupted priced.0)
    (λ e t h. ap (inside_wide (ranges s)) h.price ∙ passed-where-none (inside_wide (ranges s) priced.0) Extended e)

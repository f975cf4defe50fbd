-- Each trade of a replay is inside the ranges of its moment: its sweep or call adds it inside those, and what follows has higher numbers.
use Rattle.std.proofs.Common.{◌≡◌, ◌∙◌, ℕ, ◌+◌, ◌-◌, ◌<◌, ◌≤◌, ◌==◌, min, max, Bool, true, false, ◌&&◌, if◌then◌else◌, List, [], ◌∷◌, ◌++◌, append-nil, append_assoc, find, get_or, All, IfSome, Option, Some, None, refl, sym, ap, arith}
use Rattle.std.specs.List.{filter_map, flat_map}
use Rattle.std.specs.Prelude.{nat_le, nat_lt}
use Rattle.std.proofs.lemmas.Bool.Decides.{nat_tests}
use Rattle.std.proofs.lemmas.List.Elements.{All-append, All-head, All-nil, All-tail, All-weaker, filter-append}
use Rattle.xm_rules.specs.Active.{Positioned}
use Rattle.xm_rules.specs.Allotment.{Uncrossing, auction_trades, end_unit, first_unit, parties, trade_of_pair, traded_units}
use Rattle.xm_rules.specs.Auction.{auction_price}
use Rattle.xm_rules.specs.Commands.{trigger_of}
use Rattle.xm_rules.specs.Moments.{earlier, ranges_at}
use Rattle.xm_rules.specs.Orders.{is_named, trade_between}
use Rattle.xm_rules.specs.Settling.{come, is_continuous, is_free, joined, order_of_stop, settle, sweep_of, swept}
use Rattle.xm_rules.specs.State.{Ranges, State, inside_both, inside_wide, last_auction_price, last_price, ranges, ref1}
use Rattle.xm_rules.specs.Step.{Journal, act, cancelled, changed, changed_order, come_under, determined, entered, entered_order, keeps_priority, reduced, replaced, replay, stage_after, step, traded, uncrossed, uncrossed_at}
use Rattle.xm_rules.specs.Sweep.{is_fillable, rest_after, sweep_trades}
use Rattle.xm_rules.specs.declared.commands.Command.{Command}
use Rattle.xm_rules.specs.declared.commands.Command.TheVariants.{Enter, Change, Cancel, CancelAll, StartOpening, StartIntraday, StartClosing, Uncross, EndDay}
use Rattle.xm_rules.specs.declared.commands.Condition.{Condition}
use Rattle.xm_rules.specs.declared.commands.Condition.TheVariants.{Plain, Ioc, Fok, Boc}
use Rattle.xm_rules.specs.declared.orders.Order.{Order}
use Rattle.xm_rules.specs.declared.orders.Side.TheVariants.{Buy, Sell}
use Rattle.xm_rules.specs.declared.orders.Trade.{Trade}
use Rattle.xm_rules.specs.declared.orders.TradeKind.{TradeKind}
use Rattle.xm_rules.specs.declared.orders.TradeKind.TheVariants as made
use Rattle.xm_rules.specs.declared.phases.Auction.{Auction}
use Rattle.xm_rules.specs.declared.phases.CallStage.{CallStage}
use Rattle.xm_rules.specs.declared.phases.CallStage.TheVariants.{Ordinary, Interrupted, Extended}
use Rattle.xm_rules.specs.declared.phases.Phase.{Phase}
use Rattle.xm_rules.specs.declared.phases.Phase.TheVariants.{PreTrading, Call, Continuous, PostTrading, Ended}
use Rattle.xm_rules.specs.declared.settings.DeskSettings.{DeskSettings}
use Rattle.xm_rules.proofs.CallTrades.{All-filter_map, All-flat_map, All-in_order, call_of, passed-where-none, trades_of_call}
use Rattle.xm_rules.proofs.ComingIn.{IsOfSweep, trades_of_sweep}
use Rattle.xm_rules.proofs.Opening.{opening-has}
use Rattle.xm_rules.proofs.Replays.{replay-has, settle-has}

-- ---- the trades before a number

lower_passes : (a n : ℕ) → a < n → nat_lt a n ≡ true
lower_passes a n l = grind (arith, nat_tests)

other_fails : (a n : ℕ) → n ≤ a → nat_lt a n ≡ false
other_fails a n l = grind (arith, nat_tests)

earlier-all : (n : ℕ) (ts : List Trade) → All (λ (t : Trade). t.sweep < n) ts → earlier n ts ≡ ts
earlier-all n [] h = refl
earlier-all n (t ∷ ts) h =
    rw (lower_passes t.sweep n (All-head (λ (x : Trade). x.sweep < n) t ts h))
    (ap (λ (l : List Trade). t ∷ l) (earlier-all n ts (All-tail (λ (x : Trade). x.sweep < n) t ts h)))

earlier-none : (n : ℕ) (ts : List Trade) → All (λ (t : Trade). n ≤ t.sweep) ts → earlier n ts ≡ []
earlier-none n [] h = refl
earlier-none n (t ∷ ts) h =
    rw (other_fails t.sweep n (All-head (λ (x : Trade). n ≤ x.sweep) t ts h)) (earlier-none n ts (All-tail (λ (x : Trade). n ≤ x.sweep) t ts h))

-- ---- trades that were inside the ranges of their moment

-- inside the ranges that are asked of a trade of this kind
abbrev pub is_inside_asked : Ranges → TradeKind → ℕ → Bool
is_inside_asked r made.Continuous price = inside_both r price
is_inside_asked r (made.Auction auction Ordinary) price = inside_both r price
is_inside_asked r (made.Auction auction Interrupted) price = inside_wide r price
is_inside_asked r (made.Auction auction Extended) price = true

abbrev around : DeskSettings → List Trade → Ranges
around settings trades = record { ref1 = last_price settings.reference trades; ref2 = last_auction_price settings.reference trades; widths = settings.widths }

-- a trade among these was inside the ranges of its moment, and bears this number at most
abbrev WasInside : DeskSettings → ℕ → List Trade → Trade → Type 0
WasInside settings number trades t = (t.sweep ≤ number) × (is_inside_asked (around settings (earlier t.sweep trades)) t.kind t.price ≡ true)

-- one that comes after these bears the next number, and is inside the ranges that they give
abbrev ComesInside : DeskSettings → ℕ → List Trade → Trade → Type 0
ComesInside settings number trades t = (t.sweep ≡ number + 1) × (is_inside_asked (around settings trades) t.kind t.price ≡ true)

-- those of a smaller number are the first of the list
abbrev AreFirst : List Trade → ℕ → Type 0
AreFirst trades number = (rest : List Trade) × (trades ≡ earlier number trades ++ rest)

module _ (settings : DeskSettings) (last : ℕ) (trades more : List Trade) (each : All (WasInside settings last trades) trades) (new : All (ComesInside settings last trades) more) where
  before-new : (n : ℕ) → n ≤ last + 1 → earlier n (trades ++ more) ≡ earlier n trades
  before-new n l =
      filter-append (λ (t : Trade). nat_lt t.sweep n) trades more
      ∙ ap (λ (ts : List Trade). earlier n trades ++ ts)
      (earlier-none n more (All-weaker (ComesInside settings last trades) (λ (t : Trade). n ≤ t.sweep) (λ t k. (let e = k.0 in omega (arith, l))) more new))
      ∙ append-nil (earlier n trades)

  all-before : (n : ℕ) → last < n → earlier n trades ≡ trades
  all-before n l = earlier-all n trades (All-weaker (WasInside settings last trades) (λ (t : Trade). t.sweep < n) (λ t k. (let e = k.0 in omega (arith, l))) trades each)

  still-inside : (t : Trade) → WasInside settings last trades t → WasInside settings (last + 1) (trades ++ more) t
  still-inside t k =
      let l = k.0 in
      (omega (arith, l), ap (λ (ts : List Trade). is_inside_asked (around settings ts) t.kind t.price) (before-new t.sweep (omega (arith, l))) ∙ k.1)

  new-inside : (t : Trade) → ComesInside settings last trades t → WasInside settings (last + 1) (trades ++ more) t
  new-inside t k =
      let e = k.0 in
      (omega (arith, e), ap (λ (ts : List Trade). is_inside_asked (around settings ts) t.kind t.price) (before-new t.sweep (omega (arith, e)) ∙ all-before t.sweep (omega (arith, e))) ∙ k.1)

  added-inside : All (WasInside settings (last + 1) (trades ++ more)) (trades ++ more)
  added-inside =
      All-append (WasInside settings (last + 1) (trades ++ more)) trades more
      (All-weaker (WasInside settings last trades) (WasInside settings (last + 1) (trades ++ more)) still-inside trades each)
      (All-weaker (ComesInside settings last trades) (WasInside settings (last + 1) (trades ++ more)) new-inside more new)

  first-added : ((n : ℕ) → AreFirst trades n) → (n : ℕ) → AreFirst (trades ++ more) n
  first-added first n = by (nat_le n (last + 1)) refl where
    by : (b : Bool) → nat_le n (last + 1) ≡ b → AreFirst (trades ++ more) n
    by true e =
        let old = first n in (
          old.0 ++ more,
          ap (λ (ts : List Trade). ts ++ more) old.1 ∙ append_assoc (earlier n trades) old.0 more
              ∙ ap (λ (ts : List Trade). ts ++ (old.0 ++ more)) (sym (before-new n (grind (arith, nat_tests)))),
        )
    by false e =
        let all = earlier-all n (trades ++ more)
        (All-weaker (WasInside settings (last + 1) (trades ++ more)) (λ (t : Trade). t.sweep < n) (λ t k. (let l = k.0 in grind (arith, nat_tests))) (trades ++ more) added-inside) in
        ([], sym (append-nil (earlier n (trades ++ more)) ∙ all))

-- ---- states

-- each trade of the state was inside the ranges of its moment, and bears the number of a sweep or price determination that was;
-- and the numbers don't fall along the list
abbrev pub WereInside : State → Type 0
WereInside s = All (WasInside s.settings s.sweeps s.trades) s.trades × ((number : ℕ) → AreFirst s.trades number)

more-inside : (s : State) (more : List Trade) → WereInside s → All (ComesInside s.settings s.sweeps s.trades) more
    → WereInside (record s { trades = s.trades ++ more; sweeps = s.sweeps + 1 })
more-inside s more k new =
    (added-inside s.settings s.sweeps s.trades more k.0 new, first-added s.settings s.sweeps s.trades more k.0 new k.1)

either : (t u : State) (b : Bool) → WereInside t → WereInside u → WereInside (if b then t else u)
either t u true h i = h
either t u false h i = i

swept-inside : (s : State) (o : Order) → WereInside s → WereInside (swept s o)
swept-inside s o k =
    let w = sweep_of s o in
    let made_by = sweep_trades (s.sweeps + 1) w in
    more-inside s made_by k
    (All-weaker (IsOfSweep (ranges s) (s.sweeps + 1)) (ComesInside s.settings s.sweeps s.trades)
    (λ t h. (h.sweep, ap (λ (kind : TradeKind). is_inside_asked (ranges s) kind t.price) h.kind ∙ h.inside)) made_by (trades_of_sweep (s.sweeps + 1) w))

come-inside : (s : State) (o : Order) → WereInside s → WereInside (come s o)
come-inside s o k =
    either _ (joined s o) (is_continuous s.phase && is_free o.restriction) (either (swept s o) _ (rest_after (sweep_of s o) == 0) (swept-inside s o k) (swept-inside s o k)) k

condition-inside : (condition : Condition) (s : State) (o : Order) → WereInside s → WereInside (come_under condition s o)
condition-inside Plain s o k = come-inside s o k
condition-inside Ioc s o k = swept-inside s o k
condition-inside Fok s o k = either (come s o) s (is_fillable (sweep_of s o)) (come-inside s o k) k
condition-inside Boc s o k = come-inside s o k

entered-inside : (s : State) (condition : Condition) (trigger : Option ℕ) (o : Order) → WereInside s → WereInside (entered s condition trigger o)
entered-inside s condition None o k = condition-inside condition s o k
entered-inside s condition (Some trigger) o k = k

changed-inside : (s : State) (quantity : ℕ) (limit : Option ℕ) (found : Option Order) → WereInside s → WereInside (changed s quantity limit found)
changed-inside s quantity limit None k = k
changed-inside s quantity limit (Some o) k =
    let again = changed_order quantity limit o in
    either (reduced s quantity o) (replaced s o again) (keeps_priority quantity limit o) k (come-inside (cancelled s o.member o.reference) again k)

-- ---- calls

numbered_if : (number : ℕ) (u : Uncrossing) (b s : Positioned) (from to : ℕ) → IfSome (traded_units number u b s from to) (λ (x : ℕ × Trade). x.1.sweep ≡ number)
numbered_if number u b s from to = by (nat_lt from to) where
  by : (t : Bool)
      → IfSome (if t then Some (from, trade_between number (made.Auction u.auction u.stage) u.price (to - from) Buy b.order s.order) else None) (λ (x : ℕ × Trade). x.1.sweep ≡ number)
  by true = refl
  by false = tt

numbered : (number : ℕ) (u : Uncrossing) → All (λ (t : Trade). t.sweep ≡ number) (auction_trades number u)
numbered number u =
    let with_sells = λ (b : Positioned). filter_map (trade_of_pair number u b) (parties u Sell) in
    All-in_order (λ (t : Trade). t.sweep ≡ number) (flat_map with_sells (parties u Buy))
    (All-flat_map (λ (x : ℕ × Trade). x.1.sweep ≡ number) with_sells (parties u Buy)
    (λ b. All-filter_map (λ (x : ℕ × Trade). x.1.sweep ≡ number) (trade_of_pair number u b) (parties u Sell)
    (λ k d l. (let s = get_or (parties u Sell) k d in numbered_if number u b s (max (first_unit u Buy b) (first_unit u Sell s)) (min (end_unit u Buy b) (end_unit u Sell s))))))

traded-inside : (s : State) (u : Uncrossing) → is_inside_asked (ranges s) (made.Auction u.auction u.stage) u.price ≡ true → WereInside s → WereInside (traded s u)
traded-inside s u inside k =
    let number = s.sweeps + 1 in
    let of_call = trades_of_call number u in
    let bear = numbered number u in
    more-inside s (auction_trades number u) k
    (λ i d l. (let h = of_call i d l in (bear i d l, (λ t. is_inside_asked (ranges s) (h.kind t) (h.price t)) ∙ inside)))

-- a price that leads to no other stage is inside the ranges that its stage asks
asked-inside : (r : Ranges) (auction : Auction) (stage : CallStage) (price : ℕ) → stage_after r stage price ≡ None → is_inside_asked r (made.Auction auction stage) price ≡ true
asked-inside r auction Ordinary price e = passed-where-none (inside_both r price) Interrupted e
asked-inside r auction Interrupted price e = passed-where-none (inside_wide r price) Extended e
asked-inside r auction Extended price e = refl

determined-inside : (s : State) (u : Uncrossing) (next : Option CallStage) → stage_after (ranges s) u.stage u.price ≡ next → WereInside s → WereInside (determined s u next)
determined-inside s u None e k = traded-inside s u (asked-inside (ranges s) u.auction u.stage u.price e) k
determined-inside s u (Some stage) e k = k

priced-inside : (s : State) (auction : Auction) (stage : CallStage) (priced : Option (ℕ × ℕ)) → WereInside s → WereInside (uncrossed_at s auction stage priced)
priced-inside s auction stage None k = k
priced-inside s auction stage (Some priced) k = determined-inside s (call_of s auction stage priced) (stage_after (ranges s) stage priced.0) refl k

uncrossed-inside : (s : State) (phase : Phase) → WereInside s → WereInside (uncrossed s phase)
uncrossed-inside s (Call auction stage) k = priced-inside s auction stage (auction_price (Call auction stage) s.orders (ref1 s)) k
uncrossed-inside s PreTrading k = k
uncrossed-inside s Continuous k = k
uncrossed-inside s PostTrading k = k
uncrossed-inside s Ended k = k

-- ---- commands

act-inside : (s : State) (c : Command) → WereInside s → WereInside (act s c)
act-inside s (Enter member reference side kind quantity validity restriction condition) k =
    entered-inside s condition (trigger_of kind) (entered_order member reference side kind quantity validity restriction) k
act-inside s (Change member reference quantity limit) k = changed-inside s quantity limit (find (is_named member reference) s.orders) k
act-inside s (Cancel member reference) k = k
act-inside s (CancelAll member) k = k
act-inside s StartOpening k = k
act-inside s StartIntraday k = k
act-inside s StartClosing k = k
act-inside s Uncross k = uncrossed-inside s s.phase k
act-inside s EndDay k = k

settle-inside : (s : State) → WereInside s → WereInside (settle s [])
settle-inside s k =
    settle-has WereInside (λ _. Unit {0}) (λ s stop _ k. come-inside s (order_of_stop stop) k) (λ s k. k) (λ s k i d l. tt) s k

step-inside : (s : State) (c : Command) → WereInside s → WereInside (step s c)
unfolding step
step-inside s c k = settle-inside (act s c) (act-inside s c k)

pub inside_replay : (j : Journal) → WereInside (replay j)
inside_replay j = replay-has WereInside step-inside j (opening-has WereInside settle-inside j.settings (All-nil (WasInside j.settings 0 []), λ number. ([], refl)))

pub inside_of_kind : (j : Journal) (kind : TradeKind) → All (λ (t : Trade). t.kind ≡ kind → is_inside_asked (ranges_at (replay j) t) kind t.price ≡ true) (replay j).trades
inside_of_kind j kind =
    let s = replay j in
    All-weaker (WasInside s.settings s.sweeps s.trades) (λ (t : Trade). t.kind ≡ kind → is_inside_asked (ranges_at s t) kind t.price ≡ true)
    (λ t k e. ap (λ (x : TradeKind). is_inside_asked (ranges_at s t) x t.price) (sym e) ∙ k.1) s.trades (inside_replay j).0

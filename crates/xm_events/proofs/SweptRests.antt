-- What the fills of a sweep say is left of their orders.
use Rattle.std.proofs.Common.{◌≡◌, ℕ, ◌+◌, ◌≤◌, ◌==◌, Bool, true, false, ◌&&◌, if◌then◌else◌, cond, List, [], ◌∷◌, All, get_or, sum_by, refl, sym, ap, arith}
use Rattle.std.proofs.lemmas.List.Elements.{All-filter}
use Rattle.xm_events.specs.Life.{taken}
use Rattle.xm_events.specs.Story.{come_events, come_under_events, interrupted_events, interruption, killed_events, left_by_sweep, rest_in, sweep_events}
use Rattle.xm_events.specs.declared.events.Deletion.TheVariants.{FillOrKill}
use Rattle.xm_events.specs.declared.events.Entry.TheVariants as entry
use Rattle.xm_events.specs.declared.events.Event.{Event}
use Rattle.xm_events.specs.declared.events.Event.TheVariants.{Deleted}
use Rattle.xm_rules.specs.Active.{Positioned, is_active_on, positioned_from}
use Rattle.xm_rules.specs.Orders.{is_named, trade_between}
use Rattle.xm_rules.specs.Settling.{come, is_continuous, is_free, joined, sweep_of, swept}
use Rattle.xm_rules.specs.State.{State, ranges}
use Rattle.xm_rules.specs.Step.{come_under}
use Rattle.xm_rules.specs.Sweep.{fill, is_fillable, meet_price, orders_after_sweep, other_side, queue, rest_after, sweep_trades}
use Rattle.xm_rules.specs.declared.commands.Condition.{Condition}
use Rattle.xm_rules.specs.declared.commands.Condition.TheVariants.{Plain, Ioc, Fok, Boc}
use Rattle.xm_rules.specs.declared.orders.Order.{Order}
use Rattle.xm_rules.specs.declared.orders.Side.{Side}
use Rattle.xm_rules.specs.declared.orders.Side.TheVariants.{Buy, Sell}
use Rattle.xm_rules.specs.declared.orders.Stop.{Stop}
use Rattle.xm_rules.specs.declared.orders.TradeKind.{TradeKind}
use Rattle.xm_rules.specs.declared.orders.TradeKind.TheVariants as made
use Rattle.xm_rules.specs.declared.phases.Phase.TheVariants.{Continuous}
use Rattle.xm_rules.proofs.OneName.{named, stop_named, uses}
use Rattle.xm_rules.proofs.Remaining.{each_positioned}
use Rattle.xm_rules.proofs.SweepSizes.{each_sweep_trade}
use Rattle.xm_events.proofs.Conserved.{held, interruption_takes, killed_takes, waiting}
use Rattle.xm_events.proofs.EachFill.{EachSays, Fits, fills_say, says_as, says_none, says_on}
use Rattle.xm_events.proofs.NamedUnits.{order_units, stop_units}
use Rattle.xm_events.proofs.OneOfAName.{no_more_named, rest_is_all}
use Rattle.xm_events.proofs.Names.{each-counted, named-itself, names-apart}
use Rattle.xm_events.proofs.TestedSums.{sum-uncounted, zero_if}
use Rattle.xm_events.proofs.Told.{interruption_tells_none, killed_tells_none}
use Rattle.std.proofs.lemmas.List.Sums.{sum_by_push}
use Rattle.std.proofs.lemmas.Bool.{eqb-true}

-- the number of pending stops of a name
abbrev pub waiting_named : ℕ → ℕ → List Stop → ℕ
waiting_named member reference pending = sum_by (stop_named member reference) pending

-- at most one live order, held stop or pending stop has a name
abbrev pub AreNamedOnce : State → List Stop → Type 0
AreNamedOnce s pending = (member reference : ℕ) → uses member reference s + waiting_named member reference pending ≤ 1

-- an order that comes in has a name that none has
module _ (s : State) (o : Order) (pending : List Stop)
    (names : (member reference : ℕ) → uses member reference s + waiting_named member reference pending + named member reference o ≤ 1) where
  -- what the sweep leaves of a name, whatever becomes of the rest of the incoming order, and what waits
  abbrev pub left_in_hand : ℕ → ℕ → ℕ
  left_in_hand member reference =
      let w = sweep_of s o in
      sum_by (order_units member reference) (orders_after_sweep w) + (if is_named member reference o then rest_after w else 0)
      + sum_by (stop_units member reference) s.stops + waiting member reference pending

  -- the incoming order's name is free, and each other one stands in the book once
  left_if : (member reference : ℕ) (b : Bool) → is_named member reference o ≡ b → uses member reference s + cond b 1 0 ≤ 1
      → (if b then rest_after (sweep_of s o) else rest_in (orders_after_sweep (sweep_of s o)) member reference)
      ≡ sum_by (order_units member reference) (orders_after_sweep (sweep_of s o)) + (if b then rest_after (sweep_of s o) else 0)
  left_if member reference true e l =
      let w = sweep_of s o in
      let none = sum-uncounted (is_named member reference) (λ (x : Order). x.rest) (orders_after_sweep w) (omega (arith, l, no_more_named member reference (fill w) s.orders)) in
      omega (arith, none)
  left_if member reference false e l =
      let w = sweep_of s o in
      omega (arith, rest_is_all member reference (orders_after_sweep w) (omega (arith, l, no_more_named member reference (fill w) s.orders)))

  -- a name that an order has, also the incoming one, has no stop
  left_is : (member reference : ℕ) → 1 ≤ sum_by (named member reference) s.orders + named member reference o
      → left_by_sweep (sweep_of s o) member reference ≡ left_in_hand member reference
  left_is member reference some =
      let l = names member reference in
      let left = left_if member reference (is_named member reference o) refl (omega arith) in
      omega (
        arith,
        left,
        sum-uncounted (λ (stop : Stop). (stop.member == member) && (stop.reference == reference)) (λ (stop : Stop). stop.quantity) s.stops (omega arith),
        sum-uncounted (λ (stop : Stop). (stop.member == member) && (stop.reference == reference)) (λ (stop : Stop). stop.quantity) pending (omega arith),
      )

  -- an order has the name of one in the book
  abbrev InBook : Order → Type 0
  InBook x = 1 ≤ sum_by (named x.member x.reference) s.orders

  -- what is told behind the fills
  abbrev after : List Event
  after = interrupted_events (ranges s) (interruption (sweep_of s o))

  abbrev left_so : ℕ → ℕ → ℕ
  left_so = left_by_sweep (sweep_of s o)

  in_queue : All (λ (i : Positioned). InBook i.order) (queue (sweep_of s o))
  in_queue =
      let w = sweep_of s o in
      All-filter (is_active_on Continuous (other_side w)) (λ (i : Positioned). InBook i.order) (positioned_from 0 s.orders)
      (each_positioned InBook 0 s.orders (each-counted (λ (x y : Order). is_named x.member x.reference y) named-itself s.orders))

  -- an order of the book has another name
  differ : (x : Order) → InBook x → x.member ≡ o.member → x.reference ≡ o.reference → ⊥
  differ x in_book e f =
      let its : named o.member o.reference o ≡ 1 = ap (λ (b : Bool). cond b 1 0) (named-itself o) in
      let same : sum_by (named x.member x.reference) s.orders ≡ sum_by (named o.member o.reference) s.orders = (λ k. sum_by (named (e k) (f k)) s.orders) in
      let l = names o.member o.reference in
      absurd (omega arith)

  -- of both orders of a trade as much is left as is told
  of_incoming : left_so o.member o.reference ≡ sum_by (taken o.member o.reference) after + left_in_hand o.member o.reference
  of_incoming =
      let its : named o.member o.reference o ≡ 1 = ap (λ (b : Bool). cond b 1 0) (named-itself o) in
      omega (arith, left_is o.member o.reference (omega (arith, its)), interruption_takes o.member o.reference (ranges s) (interruption (sweep_of s o)))

  of_other : (x : Order) → InBook x → left_so x.member x.reference ≡ sum_by (taken x.member x.reference) after + left_in_hand x.member x.reference
  of_other x in_book =
      omega (arith, left_is x.member x.reference (omega (arith, in_book)), interruption_takes x.member x.reference (ranges s) (interruption (sweep_of s o)))

  between_fits : (number : ℕ) (kind : TradeKind) (price quantity : ℕ) (side : Side) (x : Order) → InBook x → Fits left_so left_in_hand after (trade_between number kind price quantity side o x)
  between_fits number kind price quantity Buy x in_book =
      record { apart = names-apart x.member x.reference o.member o.reference (differ x in_book); buyer = of_incoming; seller = of_other x in_book }
  between_fits number kind price quantity Sell x in_book =
      record {
        apart = names-apart o.member o.reference x.member x.reference (λ e f. differ x in_book (sym e) (sym f));
        buyer = of_other x in_book;
        seller = of_incoming;
      }

  -- the fills of the sweep tell what it leaves
  pub sweeping_says : EachSays left_in_hand (sweep_events s o)
  sweeping_says =
      let w = sweep_of s o in
      fills_say left_so left_in_hand (sweep_trades (s.sweeps + 1) w) after
      (each_sweep_trade (Fits left_so left_in_hand after) (s.sweeps + 1) w
      (λ k d l e. let i = get_or (queue w) k d in between_fits (s.sweeps + 1) made.Continuous (meet_price w i) (fill w i) w.incoming.side i.order (in_queue k d l)))
      (says_none left_in_hand after (interruption_tells_none (ranges s) (interruption w)))

  -- ---- what becomes of the rest

  -- what a later state has of a name, and what waits
  abbrev pub in_hand : State → ℕ → ℕ → ℕ
  in_hand t member reference = held member reference t + waiting member reference pending

  -- the rest joins, where there is one
  rest_if : (member reference : ℕ) (b : Bool) → (rest_after (sweep_of s o) == 0) ≡ b
      → left_in_hand member reference ≡ in_hand (if b then swept s o else joined (swept s o) (record o { rest = rest_after (sweep_of s o) })) member reference
  rest_if member reference true e =
      omega (arith, zero_if (is_named member reference o) (rest_after (sweep_of s o)) (eqb-true (rest_after (sweep_of s o)) 0 e))
  rest_if member reference false e =
      let left : Order = record o { rest = rest_after (sweep_of s o) } in
      omega (arith, sum_by_push (order_units member reference) (swept s o).orders left)

  -- and so for an order that comes in, on any condition
  pub coming_says : EachSays (in_hand (come s o)) (come_events s o)
  coming_says = by (is_continuous s.phase && is_free o.restriction) where
    by : (b : Bool)
        → EachSays (in_hand (if b then (if rest_after (sweep_of s o) == 0 then swept s o else joined (swept s o) (record o { rest = rest_after (sweep_of s o) })) else joined s o)) (if b then sweep_events s o else [])
    by true =
        says_as left_in_hand (in_hand (if rest_after (sweep_of s o) == 0 then swept s o else joined (swept s o) (record o { rest = rest_after (sweep_of s o) })))
        (λ member reference. rest_if member reference (rest_after (sweep_of s o) == 0) refl) (sweep_events s o) sweeping_says
    by false = tt

  pub condition_says : (condition : Condition) → EachSays (in_hand (come_under condition s o)) (come_under_events condition s o)
  condition_says Plain = coming_says
  condition_says Ioc =
      let n = rest_after (sweep_of s o) in
      says_on left_in_hand (in_hand (swept s o)) (killed_events n o) (λ member reference. omega (arith, killed_takes member reference n o)) (sweep_events s o) sweeping_says
      (says_none (in_hand (swept s o)) (killed_events n o) (killed_tells_none n o))
  condition_says Fok = by (is_fillable (sweep_of s o)) where
    by : (b : Bool) → EachSays (in_hand (if b then come s o else s)) (if b then come_events s o else Deleted (entry.Order o) FillOrKill ∷ [])
    by true = coming_says
    by false = (tt, tt)
  condition_says Boc = coming_says

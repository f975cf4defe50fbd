-- What an order that comes in leaves, and what it trades.
use Rattle.std.proofs.Common.{◌≡◌, ℕ, ◌+◌, ◌-◌, ◌<◌, ◌==◌, min, Bool, true, false, ◌&&◌, if◌then◌else◌, List, [], ◌∷◌, ◌++◌, filter, get_or, All, Contains, refl, sym, ap, subst, ◌∙◌, ◌⊎◌, inl, inr, arith}
use Rattle.std.specs.List.{list_all}
use Rattle.std.specs.Prelude.{nat_lt}
use Rattle.std.proofs.lemmas.Bool.{and_parts, both_ways, eqb-false}
use Rattle.std.proofs.lemmas.List.Elements.{All-nil, All-cons, All-contains, All-filter, All-weaker, Contains-append_cases, filter-append}
use Rattle.xm_rules.specs.Active.{Positioned, active, is_active, is_active_on, positioned_from}
use Rattle.xm_rules.specs.Crossing.{NoneMeet}
use Rattle.xm_rules.specs.Orders.{meets, trade_between}
use Rattle.xm_rules.specs.Settling.{come, is_continuous, is_free, joined, sweep_of, swept}
use Rattle.xm_rules.specs.Sides.{opposite, same_side}
use Rattle.xm_rules.specs.State.{Ranges, State, inside_both, ranges}
use Rattle.xm_rules.specs.Step.{come_under}
use Rattle.xm_rules.specs.Sweep.{Sweep, ahead_of, fill, is_executable, is_fillable, is_interrupted, is_met, is_met_inside, meet_price, orders_after_sweep, other_side, queue, rest_after, sweep_trades, units_before}
use Rattle.xm_rules.specs.declared.commands.Condition.{Condition}
use Rattle.xm_rules.specs.declared.commands.Condition.TheVariants.{Plain, Ioc, Fok, Boc}
use Rattle.xm_rules.specs.declared.orders.Order.{Order}
use Rattle.xm_rules.specs.declared.orders.Restriction.{Restriction}
use Rattle.xm_rules.specs.declared.orders.Restriction.TheVariants.{Free, OpeningOnly, AuctionsOnly, ClosingOnly}
use Rattle.xm_rules.specs.declared.orders.Side.{Side}
use Rattle.xm_rules.specs.declared.orders.Side.TheVariants.{Buy, Sell}
use Rattle.xm_rules.specs.declared.orders.Trade.{Trade}
use Rattle.xm_rules.specs.declared.orders.TradeKind.TheVariants as made
use Rattle.xm_rules.specs.declared.phases.Auction.TheVariants.{Interruption}
use Rattle.xm_rules.specs.declared.phases.CallStage.TheVariants.{Interrupted}
use Rattle.xm_rules.specs.declared.phases.Phase.{Phase}
use Rattle.xm_rules.specs.declared.phases.Phase.TheVariants.{Call, Continuous}
use Rattle.xm_rules.proofs.AfterSweeps.{left_unmet, meets_mirrored}
use Rattle.xm_rules.proofs.Allotments.{side_is}
use Rattle.xm_rules.proofs.CallTrades.{Adds, adds_none}
use Rattle.xm_rules.proofs.Queues.{units}
use Rattle.xm_rules.proofs.Remaining.{is_lessened, is_on_side, joins_queue}
use Rattle.xm_rules.proofs.SweepSizes.{each_sweep_trade}

-- ---- the orders that a sweep leaves

-- an order that is left, as it was before: it has lost no more than it had
record IsLeft (w : Sweep) (side : Side) (z : Positioned) : Type 0 where
  pub was : Positioned
  pub queued : Contains (active Continuous side w.orders) was
  pub on : is_active_on Continuous side was ≡ true
  pub kind : z.order.kind ≡ was.order.kind
  pub less : fill w was < units was

left_of : (w : Sweep) (side : Side) (z : Positioned) → Contains (active Continuous side (orders_after_sweep w)) z → IsLeft w side z
left_of w side z at =
    let h = is_lessened (fill w) w.orders Continuous side z at in
    let on : is_active_on Continuous side h.was ≡ true =
    ap (λ (o : Order). is_active_on Continuous side (record { position = 0; order = o })) (sym h.same) ∙ is_on_side Continuous side (orders_after_sweep w) z at in
    let rest : z.order.rest ≡ units h.was - fill w h.was = ap (λ (o : Order). o.rest) h.same in
    let more = h.more in
    record { was = h.was; queued = joins_queue Continuous side w.orders h.was h.stood on; on = on; kind = ap (λ (o : Order). o.kind) h.same; less = omega (arith, rest, more) }

none_left : (w : Sweep) → NoneMeet w.orders → NoneMeet (orders_after_sweep w)
none_left w none = λ side i j at to.
    let a = left_of w side i at in
    let b = left_of w (opposite side) j to in
    (λ t. meets side (a.kind t) (b.kind t)) ∙ none side a.was b.was a.queued b.queued

second_fails : (a b : Bool) → a ≡ true → (a && b) ≡ false → b ≡ false
second_fails true b e h = h
second_fails false b e h = absurd (cc)

-- where a rest of the incoming order is left and trading goes on, it meets none of them
rest_unmet : (w : Sweep) → 0 < rest_after w → is_interrupted w ≡ false → (z : Positioned) → Contains (active Continuous (other_side w) (orders_after_sweep w)) z
    → meets w.incoming.side w.incoming.kind z.order.kind ≡ false
rest_unmet w some goes_on z at =
    let a = left_of w (other_side w) z at in
    ap (meets w.incoming.side w.incoming.kind) a.kind
    ∙ second_fails (is_active_on Continuous (other_side w) a.was) (meets w.incoming.side w.incoming.kind a.was.order.kind) a.on (left_unmet w some goes_on a.was a.queued a.less)

-- ---- an order that joins

positioned_joined : (k : ℕ) (os : List Order) (o : Order) → (p : Positioned) × (p.order ≡ o) × (positioned_from k (os ++ o ∷ []) ≡ positioned_from k os ++ p ∷ [])
positioned_joined k [] o = (record { position = k; order = o }, refl, refl)
positioned_joined k (x ∷ xs) o =
    let later = positioned_joined (k + 1) xs o in
    (later.0, later.1, ap (λ (l : List Positioned). record { position = k; order = x } ∷ l) later.2)

-- an active order was there, or is the one that joined
joined_cases : (side : Side) (os : List Order) (o : Order) (i : Positioned) → Contains (active Continuous side (os ++ o ∷ [])) i
    → Contains (active Continuous side os) i ⊎ (i.order ≡ o)
joined_cases side os o i at = by_part (Contains-append_cases (active Continuous side os) (filter on (last ∷ [])) i (subst (λ (l : List Positioned). Contains l i) split at))
  where
    on : Positioned → Bool
    on = is_active_on Continuous side

    last : Positioned
    last = (positioned_joined 0 os o).0

    split : active Continuous side (os ++ o ∷ []) ≡ active Continuous side os ++ filter on (last ∷ [])
    split = ap (filter on) (positioned_joined 0 os o).2 ∙ filter-append on (positioned_from 0 os) (last ∷ [])

    by_part : Contains (active Continuous side os) i ⊎ Contains (filter on (last ∷ [])) i → Contains (active Continuous side os) i ⊎ (i.order ≡ o)
    by_part (inl there) = inl there
    by_part (inr here) =
        inr (All-contains (λ (x : Positioned). x.order ≡ o) (filter on (last ∷ [])) i
        (All-filter on (λ (x : Positioned). x.order ≡ o) (last ∷ []) (All-cons (λ (x : Positioned). x.order ≡ o) last [] (positioned_joined 0 os o).1 (All-nil (λ (x : Positioned). x.order ≡ o)))) here)

abbrev is_on : Side → Order → Bool
is_on side o = is_active Continuous o.restriction && same_side side o.side

one_side : (side own : Side) → same_side side own ≡ true → same_side (opposite side) own ≡ true → ⊥
one_side Buy Buy e f = cc
one_side Buy Sell e f = cc
one_side Sell Buy e f = cc
one_side Sell Sell e f = cc

opposite_twice : (side : Side) → opposite (opposite side) ≡ side
opposite_twice Buy = refl
opposite_twice Sell = refl

none_joined : (os : List Order) (o : Order) → NoneMeet os
    → ((side : Side) (j : Positioned) → is_on side o ≡ true → Contains (active Continuous (opposite side) os) j → meets side o.kind j.order.kind ≡ false) → NoneMeet (os ++ o ∷ [])
none_joined os o none unmet = λ side i j at to.
    by_cases side i j (is_on_side Continuous side (os ++ o ∷ []) i at) (is_on_side Continuous (opposite side) (os ++ o ∷ []) j to) (joined_cases side os o i at) (joined_cases (opposite side) os o j to)
  where
    by_cases : (side : Side) (i j : Positioned) → is_active_on Continuous side i ≡ true → is_active_on Continuous (opposite side) j ≡ true
        → Contains (active Continuous side os) i ⊎ (i.order ≡ o) → Contains (active Continuous (opposite side) os) j ⊎ (j.order ≡ o) → meets side i.order.kind j.order.kind ≡ false
    by_cases side i j here there (inl at) (inl to) = none side i j at to
    by_cases side i j here there (inr e) (inl to) =
        ap (λ (x : Order). meets side x.kind j.order.kind) e ∙ unmet side j (ap (is_on side) (sym e) ∙ here) to
    by_cases side i j here there (inl at) (inr e) =
        ap (λ (x : Order). meets side i.order.kind x.kind) e ∙ sym (meets_mirrored side i.order.kind o.kind)
        ∙ unmet (opposite side) i (ap (is_on (opposite side)) (sym e) ∙ there) (subst (λ (x : Side). Contains (active Continuous x os) i) (sym (opposite_twice side)) at)
    by_cases side i j here there (inr e) (inr f) =
        absurd (one_side side o.side (and_parts (is_active Continuous o.restriction) (same_side side o.side) (ap (is_on side) (sym e) ∙ here)).1
        (and_parts (is_active Continuous o.restriction) (same_side (opposite side) o.side) (ap (is_on (opposite side)) (sym f) ∙ there)).1)

-- ---- an order that comes in

active_if_free : (r : Restriction) → is_active Continuous r ≡ is_free r
active_if_free Free = refl
active_if_free OpeningOnly = refl
active_if_free AuctionsOnly = refl
active_if_free ClosingOnly = refl

trading_goes_on : (b : Bool) (phase : Phase) → (if b then Call Interruption Interrupted else phase) ≡ Continuous → b ≡ false
trading_goes_on true phase e = absurd (cc)
trading_goes_on false phase e = refl

module _ (s : State) (o : Order) (none : NoneMeet s.orders) where
  abbrev w : Sweep
  w = sweep_of s o

  swept_none : NoneMeet (swept s o).orders
  swept_none = none_left w none

  rest_if : (b : Bool) → (rest_after w == 0) ≡ b → (swept s o).phase ≡ Continuous → NoneMeet (if b then swept s o else joined (swept s o) (record o { rest = rest_after w })).orders
  rest_if true e phase = swept_none
  rest_if false e phase =
      none_joined (orders_after_sweep w) (record o { rest = rest_after w }) swept_none
      (λ side j on to. (let same = side_is side o.side (and_parts (is_active Continuous o.restriction) (same_side side o.side) on).1 in
      ap (λ (x : Side). meets x o.kind j.order.kind) (sym same)
      ∙ rest_unmet w (let some = eqb-false (rest_after w) 0 e in omega arith) (trading_goes_on (is_interrupted w) s.phase phase) j
      (subst (λ (x : Side). Contains (active Continuous (opposite x) (orders_after_sweep w)) j) (sym same) to)))

  joined_none : is_active Continuous o.restriction ≡ false → NoneMeet (joined s o).orders
  joined_none off =
      none_joined s.orders o none
      (λ side j on to. absurd (both_ways (is_active Continuous o.restriction) off (and_parts (is_active Continuous o.restriction) (same_side side o.side) on).0))

  rest_phase : (b : Bool) → (if b then swept s o else joined (swept s o) (record o { rest = rest_after w })).phase ≡ (swept s o).phase
  rest_phase true = refl
  rest_phase false = refl

  come_if : (b : Bool) → (is_continuous s.phase && is_free o.restriction) ≡ b
      → (if b then (if rest_after w == 0 then swept s o else joined (swept s o) (record o { rest = rest_after w })) else joined s o).phase ≡ Continuous
      → NoneMeet (if b then (if rest_after w == 0 then swept s o else joined (swept s o) (record o { rest = rest_after w })) else joined s o).orders
  come_if true e phase = rest_if (rest_after w == 0) refl (sym (rest_phase (rest_after w == 0)) ∙ phase)
  come_if false e phase =
      joined_none (active_if_free o.restriction ∙ second_fails (is_continuous s.phase) (is_free o.restriction) (ap is_continuous phase) e)

  pub come_none : (come s o).phase ≡ Continuous → NoneMeet (come s o).orders
  come_none phase = come_if (is_continuous s.phase && is_free o.restriction) refl phase

  fillable_if : (b : Bool) → (if b then come s o else s).phase ≡ Continuous → NoneMeet (if b then come s o else s).orders
  fillable_if true phase = come_none phase
  fillable_if false phase = none

  pub none_meet : (condition : Condition) → (come_under condition s o).phase ≡ Continuous → NoneMeet (come_under condition s o).orders
  none_meet Plain phase = come_none phase
  none_meet Ioc phase = swept_none
  none_meet Fok phase = fillable_if (is_fillable w) phase
  none_meet Boc phase = come_none phase

-- ---- the phase after it

either_phase : (b : Bool) (later phase : Phase) → phase ≡ Continuous → ((if b then later else phase) ≡ Continuous) ⊎ ((if b then later else phase) ≡ later)
either_phase true later phase e = inr refl
either_phase false later phase e = inl e

module _ (s : State) (o : Order) (trading : s.phase ≡ Continuous) where
  abbrev GoesOnOrNot : State → Type 0
  GoesOnOrNot t = (t.phase ≡ Continuous) ⊎ (t.phase ≡ Call Interruption Interrupted)

  of_either : (t u : State) (b : Bool) → GoesOnOrNot t → GoesOnOrNot u → GoesOnOrNot (if b then t else u)
  of_either t u true h i = h
  of_either t u false h i = i

  swept_phase : GoesOnOrNot (swept s o)
  swept_phase = either_phase (is_interrupted (sweep_of s o)) (Call Interruption Interrupted) s.phase trading

  come_phase : GoesOnOrNot (come s o)
  come_phase =
      of_either _ (joined s o) (is_continuous s.phase && is_free o.restriction)
      (of_either (swept s o) _ (rest_after (sweep_of s o) == 0) swept_phase swept_phase) (inl trading)

  pub phase_after : (condition : Condition) → GoesOnOrNot (come_under condition s o)
  phase_after Plain = come_phase
  phase_after Ioc = swept_phase
  phase_after Fok = of_either (come s o) s (is_fillable (sweep_of s o)) come_phase (inl trading)
  phase_after Boc = come_phase

-- ---- the trades

-- of the sweep of this number, and inside its ranges
pub record IsOfSweep (around : Ranges) (number : ℕ) (t : Trade) : Type 0 where
  pub inside : inside_both around t.price ≡ true
  pub kind : t.kind ≡ made.Continuous
  pub sweep : t.sweep ≡ number

between : (around : Ranges) (number price quantity : ℕ) (side : Side) (o i : Order) → inside_both around price ≡ true
    → IsOfSweep around number (trade_between number made.Continuous price quantity side o i)
between around number price quantity Buy o i e = record { inside = e; kind = refl; sweep = refl }
between around number price quantity Sell o i e = record { inside = e; kind = refl; sweep = refl }

some_if : (b : Bool) (n : ℕ) → nat_lt 0 (if b then n else 0) ≡ true → b ≡ true
some_if true n e = refl
some_if false n e = absurd (cc)

filled_inside : (w : Sweep) (i : Positioned) → nat_lt 0 (fill w i) ≡ true → inside_both w.ranges (meet_price w i) ≡ true
filled_inside w i e =
    let may = some_if (is_executable w i) (min i.order.rest (w.incoming.rest - units_before w i)) e in
    (and_parts (is_met w i) (inside_both w.ranges (meet_price w i)) (and_parts (is_met_inside w i) (list_all (is_met_inside w) (ahead_of w i)) may).0).1

pub trades_of_sweep : (number : ℕ) (w : Sweep) → All (IsOfSweep w.ranges number) (sweep_trades number w)
trades_of_sweep number w =
    each_sweep_trade (IsOfSweep w.ranges number) number w
    (λ k d l e. (let i = get_or (queue w) k d in between w.ranges number (meet_price w i) (fill w i) w.incoming.side w.incoming i.order (filled_inside w i e)))

module _ (P : Trade → Type 0) (s : State) (o : Order) (each : All P (sweep_trades (s.sweeps + 1) (sweep_of s o))) where
  adds_either : (t u : State) (b : Bool) → Adds P s t → Adds P s u → Adds P s (if b then t else u)
  adds_either t u true h i = h
  adds_either t u false h i = i

  come_adds : Adds P s (come s o)
  come_adds =
      adds_either _ (joined s o) (is_continuous s.phase && is_free o.restriction)
      (adds_either (swept s o) _ (rest_after (sweep_of s o) == 0)
      (record { more = sweep_trades (s.sweeps + 1) (sweep_of s o); trades = refl; each = each })
      (record { more = sweep_trades (s.sweeps + 1) (sweep_of s o); trades = refl; each = each }))
      (adds_none P s (joined s o) refl)

  adds_under : (condition : Condition) → Adds P s (come_under condition s o)
  adds_under Plain = come_adds
  adds_under Ioc = record { more = sweep_trades (s.sweeps + 1) (sweep_of s o); trades = refl; each = each }
  adds_under Fok = adds_either (come s o) s (is_fillable (sweep_of s o)) come_adds (adds_none P s s refl)
  adds_under Boc = come_adds

-- what holds of each trade of the sweep holds of each that it adds
pub sweep_adds : (P : Trade → Type 0) (condition : Condition) (s : State) (o : Order) → ((t : Trade) → IsOfSweep (ranges s) (s.sweeps + 1) t → P t)
    → Adds P s (come_under condition s o)
sweep_adds P condition s o h =
    adds_under P s o (All-weaker (IsOfSweep (ranges s) (s.sweeps + 1)) P h (sweep_trades (s.sweeps + 1) (sweep_of s o)) (trades_of_sweep (s.sweeps + 1) (sweep_of s o))) condition

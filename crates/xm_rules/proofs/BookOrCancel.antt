-- A book-or-cancel order that is accepted meets no order: its sweep makes no trade, and it joins the time list last.
use Rattle.std.proofs.Common.{◌≡◌, ℕ, ◌+◌, ◌-◌, ◌≤◌, ◌==◌, min, suc, zero, Bool, true, false, ◌&&◌, ◌||◌, not, if◌then◌else◌, List, [], ◌∷◌, ◌++◌, filter, map, All, Contains, Option, None, refl, sym, ap, ◌∙◌, arith}
use Rattle.std.specs.List.{list_all, list_any}
use Rattle.std.specs.Prelude.{nat_lt}
use Rattle.std.proofs.lemmas.Bool.Decides.{nat_tests}
use Rattle.std.proofs.lemmas.List.Elements.{All-cons, All-contains, All-contains_itself, All-filter, All-head, All-nil, All-tail, All-weaker}
use Rattle.std.proofs.lemmas.List.Folds.{list_any_none}
use Rattle.xm_rules.specs.Active.{Positioned, is_active_on, positioned_from}
use Rattle.xm_rules.specs.Commands.{is_in_range, is_limit, trigger_of}
use Rattle.xm_rules.specs.Orders.{meets}
use Rattle.xm_rules.specs.Priority.{in_order}
use Rattle.xm_rules.specs.Refusals.{refusal_of}
use Rattle.xm_rules.specs.Settling.{come, is_continuous, is_free, is_reached, joined, settle, sweep_of, swept}
use Rattle.xm_rules.specs.State.{State, inside_both, ref1}
use Rattle.xm_rules.specs.Step.{act, entered, entered_order, step}
use Rattle.xm_rules.specs.Sums.{total_quantity}
use Rattle.xm_rules.specs.Sweep.{Sweep, ahead_of, fill, filled, interrupts_at, is_executable, is_interrupted, is_met, is_met_inside, meet_price, orders_after_sweep, other_side, queue, rest_after, sweep_trades, trade_with, units_before}
use Rattle.xm_rules.specs.declared.commands.Command.{Command}
use Rattle.xm_rules.specs.declared.commands.Command.TheVariants.{Enter}
use Rattle.xm_rules.specs.declared.commands.Condition.TheVariants.{Boc}
use Rattle.xm_rules.specs.declared.commands.Kind.{Kind}
use Rattle.xm_rules.specs.declared.commands.Kind.TheVariants as kind
use Rattle.xm_rules.specs.declared.orders.Order.{Order}
use Rattle.xm_rules.specs.declared.orders.Restriction.{Restriction}
use Rattle.xm_rules.specs.declared.orders.Restriction.TheVariants.{Free, OpeningOnly, AuctionsOnly, ClosingOnly}
use Rattle.xm_rules.specs.declared.orders.Side.{Side}
use Rattle.xm_rules.specs.declared.orders.Stop.{Stop}
use Rattle.xm_rules.specs.declared.orders.Trade.{Trade}
use Rattle.xm_rules.specs.declared.orders.Validity.{Validity}
use Rattle.xm_rules.specs.declared.phases.Auction.TheVariants.{Interruption}
use Rattle.xm_rules.specs.declared.phases.CallStage.TheVariants.{Interrupted}
use Rattle.xm_rules.specs.declared.phases.Phase.{Phase}
use Rattle.xm_rules.specs.declared.phases.Phase.TheVariants.{Call, Continuous, PreTrading, PostTrading, Ended}
use Rattle.xm_rules.proofs.Accepted.{entry-accepted}
use Rattle.xm_rules.proofs.ReachedStops.{NoneReached, settle-none}
use Rattle.xm_rules.proofs.Remaining.{joins_queue}
use Rattle.xm_rules.proofs.Sweeps.{traded_is_filled}

-- ---- lists

head_off : (b rest : Bool) → (b || rest) ≡ false → (b ≡ false) × (rest ≡ false)
head_off true rest e = cc
head_off false rest e = (refl, e)

module _ {A : Type 0} (p : A → Bool) where
  none_passes : (xs : List A) → list_any p xs ≡ false → All (λ x. p x ≡ false) xs
  none_passes [] e = All-nil (λ (x : A). p x ≡ false)
  none_passes (x ∷ xs) e =
      let parts = head_off (p x) (list_any p xs) e in
      All-cons (λ (x : A). p x ≡ false) x xs parts.0 (none_passes xs parts.1)

  none_kept : (xs : List A) → All (λ x. p x ≡ false) xs → filter p xs ≡ []
  none_kept [] none = refl
  none_kept (x ∷ xs) none =
      let off = All-head (λ (x : A). p x ≡ false) x xs none in
      (λ i. if off i then x ∷ filter p xs else filter p xs) ∙ none_kept xs (All-tail (λ (x : A). p x ≡ false) x xs none)

  all_kept : (xs : List A) → All (λ x. p x ≡ true) xs → filter p xs ≡ xs
  all_kept [] all = refl
  all_kept (x ∷ xs) all =
      let on = All-head (λ (x : A). p x ≡ true) x xs all in
      (λ i. if on i then x ∷ filter p xs else filter p xs) ∙ ap (λ (rest : List A). x ∷ rest) (all_kept xs (All-tail (λ (x : A). p x ≡ true) x xs all))

-- ---- a sweep that meets no order

abbrev MeetsNone : Sweep → Type 0
MeetsNone w = list_any (λ (i : Positioned). meets w.incoming.side w.incoming.kind i.order.kind) (queue w) ≡ false

met_if : (on met : Bool) → (on ≡ true → met ≡ false) → (on && met) ≡ false
met_if true met off = off refl
met_if false met off = refl

each_unmet : (w : Sweep) → MeetsNone w → All (λ (i : Positioned). is_met w i ≡ false) (positioned_from 0 w.orders)
each_unmet w none =
    let meets_one = λ (i : Positioned). meets w.incoming.side w.incoming.kind i.order.kind in
    All-weaker (Contains (positioned_from 0 w.orders)) (λ (i : Positioned). is_met w i ≡ false)
    (λ i at. met_if (is_active_on Continuous (other_side w) i) (meets_one i)
    (λ on. All-contains (λ (j : Positioned). meets_one j ≡ false) (queue w) i (none_passes meets_one (queue w) none) (joins_queue Continuous (other_side w) w.orders i at on)))
    (positioned_from 0 w.orders) (All-contains_itself (positioned_from 0 w.orders))

module _ (w : Sweep) (i : Positioned) (unmet : is_met w i ≡ false) where
  not_executed : is_executable w i ≡ false
  not_executed = λ k. (unmet k && inside_both w.ranges (meet_price w i)) && list_all (is_met_inside w) (ahead_of w i)

  not_filled : fill w i ≡ 0
  not_filled = λ k. if not_executed k then min i.order.rest (w.incoming.rest - units_before w i) else 0

  not_interrupting : interrupts_at w i ≡ false
  not_interrupting = λ k. (unmet k && not (is_executable w i)) && (list_all (is_executable w) (ahead_of w i) && nat_lt (units_before w i) w.incoming.rest)

  no_units : nat_lt 0 (fill w i) ≡ false
  no_units = ap (nat_lt 0) not_filled

abbrev HasUnits : Order → Type 0
HasUnits o = 1 ≤ o.rest

unlessened : (o : Order) (n : ℕ) → n ≡ 0 → record o { rest = o.rest - n } ≡ o
unlessened o n none =
    let same : o.rest - n ≡ o.rest = omega (arith, none) in
    ap (λ (rest : ℕ). record o { rest = rest }) same

some_rest : (n : ℕ) → 1 ≤ n → nat_lt 0 n ≡ true
some_rest n some = grind (arith, nat_tests)

nothing_taken : (taken : Positioned → ℕ) (place : ℕ) (os : List Order) → All (λ (i : Positioned). taken i ≡ 0) (positioned_from place os) → All HasUnits os
    → filter (λ (o : Order). nat_lt 0 o.rest) (map (λ (i : Positioned). let o = i.order in record o { rest = o.rest - taken i }) (positioned_from place os)) ≡ os
nothing_taken taken place [] none some = refl
nothing_taken taken place (o ∷ os) none some =
    let i : Positioned = record { position = place; order = o } in
    let lessened : List Order = filter (λ (x : Order). nat_lt 0 x.rest) (map (λ (j : Positioned). let x = j.order in record x { rest = x.rest - taken j }) (positioned_from (place + 1) os)) in
    let same = unlessened o (taken i) (All-head (λ (j : Positioned). taken j ≡ 0) i (positioned_from (place + 1) os) none) in
    let left = some_rest o.rest (All-head HasUnits o os some) in
    (λ k. if nat_lt 0 (same k).rest then same k ∷ lessened else lessened)
    ∙ (λ k. if left k then o ∷ lessened else lessened)
    ∙ ap (λ (rest : List Order). o ∷ rest)
    (nothing_taken taken (place + 1) os (All-tail (λ (j : Positioned). taken j ≡ 0) i (positioned_from (place + 1) os) none) (All-tail HasUnits o os some))

module _ (w : Sweep) (none : MeetsNone w) where
  queued : All (λ (i : Positioned). is_met w i ≡ false) (queue w)
  queued = All-filter (is_active_on Continuous (other_side w)) (λ (i : Positioned). is_met w i ≡ false) (positioned_from 0 w.orders) (each_unmet w none)

  pub no_trades : (number : ℕ) → sweep_trades number w ≡ []
  no_trades number =
      ap (λ (filling : List Positioned). in_order (map (λ (i : Positioned). (units_before w i, trade_with number w i)) filling))
      (none_kept (λ (i : Positioned). nat_lt 0 (fill w i)) (queue w)
      (All-weaker (λ (i : Positioned). is_met w i ≡ false) (λ (i : Positioned). nat_lt 0 (fill w i) ≡ false) (no_units w) (queue w) queued))

  pub whole_rest : rest_after w ≡ w.incoming.rest
  whole_rest =
      let nothing : filled w ≡ 0 = sym (traded_is_filled 0 w) ∙ ap total_quantity (no_trades 0) in
      omega (arith, nothing)

  pub goes_on : is_interrupted w ≡ false
  goes_on =
      list_any_none (interrupts_at w) (queue w)
      (All-weaker (λ (i : Positioned). is_met w i ≡ false) (λ (i : Positioned). interrupts_at w i ≡ false) (not_interrupting w) (queue w) queued)

  pub orders_stay : All HasUnits w.orders → orders_after_sweep w ≡ w.orders
  orders_stay some =
      nothing_taken (fill w) 0 w.orders
      (All-weaker (λ (i : Positioned). is_met w i ≡ false) (λ (i : Positioned). fill w i ≡ 0) (not_filled w) (positioned_from 0 w.orders) (each_unmet w none)) some

-- ---- the order comes in

limit_alone : (k : Kind) (r : Restriction) → (not (is_limit k) || not (is_free r)) ≡ false → (trigger_of k ≡ None) × (is_free r ≡ true)
limit_alone (kind.Limit p) Free e = (refl, refl)
limit_alone (kind.Limit p) OpeningOnly e = cc
limit_alone (kind.Limit p) AuctionsOnly e = cc
limit_alone (kind.Limit p) ClosingOnly e = cc
limit_alone kind.Market r e = cc
limit_alone (kind.StopMarket t) r e = cc
limit_alone (kind.StopLimit t p) r e = cc

trading : (phase : Phase) → not (is_continuous phase) ≡ false → is_continuous phase ≡ true
trading Continuous e = refl
trading PreTrading e = cc
trading (Call auction stage) e = cc
trading PostTrading e = cc
trading Ended e = cc

-- the state with an order more, which was swept and met none
abbrev pub booked : State → Order → State
booked s o = record s { orders = s.orders ++ o ∷ []; sweeps = s.sweeps + 1 }

some_left : (n : ℕ) → 1 ≤ n → (n == 0) ≡ false
some_left n some = grind (arith, nat_tests)

nothing_more : (trades : List Trade) → trades ++ [] ≡ trades
nothing_more [] = refl
nothing_more (t ∷ trades) = ap (λ (more : List Trade). t ∷ more) (nothing_more trades)

module _ (s : State) (o : Order) (none : MeetsNone (sweep_of s o)) (some : All HasUnits s.orders) where
  abbrev w : Sweep
  w = sweep_of s o

  swept_so : swept s o ≡ record s { sweeps = s.sweeps + 1 }
  swept_so =
      (λ k. record s {
        phase = if goes_on w none k then Call Interruption Interrupted else s.phase;
        orders = orders_stay w none some k;
        trades = s.trades ++ no_trades w none (s.sweeps + 1) k;
        sweeps = s.sweeps + 1;
      })
      ∙ ap (λ (trades : List Trade). record s { trades = trades; sweeps = s.sweeps + 1 }) (nothing_more s.trades)

  come_so : is_continuous s.phase ≡ true → is_free o.restriction ≡ true → 1 ≤ o.rest → come s o ≡ booked s o
  come_so continuous free units =
      let rest = whole_rest w none in
      let left : (rest_after w == 0) ≡ false = ap (λ (n : ℕ). n == 0) rest ∙ some_left o.rest units in
      (λ k. if continuous k && free k then (if rest_after w == 0 then swept s o else joined (swept s o) (record o { rest = rest_after w })) else joined s o)
      ∙ (λ k. if left k then swept s o else joined (swept s o) (record o { rest = rest_after w }))
      ∙ (λ k. joined (swept_so k) (record o { rest = rest k }))

-- no held stop is reached then either
settled_so : (s : State) (o : Order) → NoneReached s → settle (booked s o) [] ≡ booked s o
settled_so s o none =
    let last = λ (stop : Stop). is_reached (ref1 s) stop in
    settle-none (booked s o) [] (none_kept last s.stops none)
    ∙ ap (λ (stops : List Stop). record (booked s o) { stops = stops })
    (all_kept (λ (stop : Stop). not (last stop)) s.stops
    (All-weaker (λ (stop : Stop). last stop ≡ false) (λ (stop : Stop). not (last stop) ≡ true) (λ stop e. ap not e) s.stops none))

in_range_has_units : (n : ℕ) → is_in_range n ≡ true → 1 ≤ n
in_range_has_units zero e = cc
in_range_has_units (suc n) e = omega arith

-- with the condition's checks
module _ (s : State) (member reference quantity : ℕ) (side : Side) (k : Kind) (v : Validity) (r : Restriction) where
  abbrev o : Order
  o = entered_order member reference side k quantity v r

  abbrev entry : Command
  entry = Enter member reference side k quantity v r Boc

  comes : refusal_of s entry ≡ None → All HasUnits s.orders → act s entry ≡ booked s o
  comes h some =
      let passes = entry-accepted s member reference side k quantity v r Boc h in
      let alone = limit_alone k r passes.combined in
      ap (λ (trigger : Option ℕ). entered s Boc trigger o) alone.0
      ∙ come_so s o passes.unmet some (trading s.phase passes.in_phase) alone.1 (in_range_has_units quantity passes.quantity)

  pub joins_last : refusal_of s entry ≡ None → All HasUnits s.orders → NoneReached s
      → step s entry ≡ record (booked s o) { accepted = s.accepted + 1 }
  unfolding step
  joins_last h some none =
      ap (λ (t : State). record (settle t []) { accepted = s.accepted + 1 }) (comes h some)
      ∙ ap (λ (t : State). record t { accepted = s.accepted + 1 }) (settled_so s o none)

-- What a sweep leaves of a desk, and what it trades.
use Rattle.std.proofs.Common.{◌≡◌, ℕ, zero, suc, ◌+◌, ◌-◌, ◌<◌, ◌≤◌, ◌==◌, if◌then◌else◌, Bool, true, false, ◌||◌, cond, List, [], ◌∷◌, ◌++◌, Option, is_some, sym, All, filter, map, get_or, refl, ap, ◌∙◌, arith}
use Rattle.std.specs.List.{list_any}
use Rattle.std.specs.Prelude.{nat_lt}
use Rattle.std.proofs.lemmas.Bool.Decides.{nat_tests}
use Rattle.std.proofs.lemmas.List.Elements.{All-weaker}
use Rattle.xm_desk.specs.Incoming.{CanJoin}
use Rattle.xm_book.specs.Places.{place_of}
use Rattle.xm_desk.specs.Made.{AreSized}
use Rattle.xm_desk.specs.declared.unsettled.Ready.TheVariants.{ForOrder, Used}
use Rattle.xm_desk.specs.Settled.{Unsettled}
use Rattle.xm_desk.specs.declared.unsettled.Ready.{Ready}
use Rattle.xm_events.proofs.Seeing.{interrupted-by, sweep-seen}
use Rattle.xm_events.specs.Seen.{Seen, latest, seen_after}
use Rattle.xm_events.specs.Story.{interruption, sweep_events}
use Rattle.xm_rules.specs.Refusals.{has_order}
use Rattle.xm_rules.specs.Settling as settling
use Rattle.xm_rules.specs.Settling.{swept}
use Rattle.xm_rules.specs.Commands.{is_in_range}
use Rattle.xm_ticks.specs.declared.numbers.TheConstants.{MAX_QUANTITY}
use Rattle.xm_rules.proofs.Ranges.{range_high}
use Rattle.xm_rules.proofs.SweepSizes.{each_sweep_trade, sweep_trades_sized}
use Rattle.xm_rules.specs.Active.{Positioned, positioned_from}
use Rattle.xm_rules.specs.Orders.{is_named, trade_between}
use Rattle.xm_rules.specs.Priority.{without_units}
use Rattle.xm_desk.specs.Tape.{TapeView, swept_by}
use Rattle.xm_match.specs.Meeting.{sweep_over}
use Rattle.xm_rules.specs.State.{is_auction, last_auction_price, last_price}
use Rattle.xm_rules.specs.declared.settings.Widths.{Widths}
use Rattle.xm_rules.specs.Sweep.{Sweep, fill, is_interrupted, meet_price, orders_after_sweep, queue, rest_after, sweep_trades}
use Rattle.xm_rules.specs.declared.orders.Order.{Order}
use Rattle.xm_rules.specs.declared.orders.Side.{Side}
use Rattle.xm_rules.specs.declared.orders.Side.TheVariants.{Buy, Sell}
use Rattle.xm_rules.specs.declared.orders.Trade.{Trade}
use Rattle.xm_rules.specs.declared.orders.TradeKind.TheVariants as made
use Rattle.xm_rules.specs.declared.phases.Auction.TheVariants.{Interruption}
use Rattle.xm_rules.specs.declared.phases.CallStage.TheVariants.{Interrupted}
use Rattle.xm_rules.specs.declared.phases.Phase.{Phase}
use Rattle.xm_rules.specs.declared.phases.Phase.TheVariants.{Call}

kind_between : (number price quantity : ℕ) (side : Side) (o i : Order) → is_auction (trade_between number made.Continuous price quantity side o i).kind ≡ false
kind_between number price quantity Buy o i = refl
kind_between number price quantity Sell o i = refl

-- no trade of a sweep is one of an auction
pub of-no-auction : (number : ℕ) (w : Sweep) → All (λ (t : Trade). is_auction t.kind ≡ false) (sweep_trades number w)
of-no-auction number w =
    each_sweep_trade (λ (t : Trade). is_auction t.kind ≡ false) number w
    (λ k d l e. (let i = get_or (queue w) k d in kind_between number (meet_price w i) (fill w i) w.incoming.side w.incoming i.order))

left_if : (p : Order → Bool) (o : Order) (os : List Order) (b : Bool) → p o ≡ false → list_any p os ≡ false → list_any p (cond b (o ∷ os) os) ≡ false
left_if p o os true e h = rw e h
left_if p o os false e h = h

none_of : (a b : Bool) → (a || b) ≡ false → (a ≡ false) × (b ≡ false)
none_of true b h = cc
none_of false b h = (refl, h)

unnamed_from : (m r k : ℕ) (taken : Positioned → ℕ) (orders : List Order) → list_any (is_named m r) orders ≡ false
    → list_any (is_named m r) (filter (λ (o : Order). nat_lt 0 o.rest) (map (λ (i : Positioned). let o = i.order in let p : Order = record o { rest = o.rest - taken i } in p) (positioned_from k orders))) ≡ false
unnamed_from m r k taken [] h = refl
unnamed_from m r k taken (o ∷ os) h =
    let parts = none_of (is_named m r o) (list_any (is_named m r) os) h in
    let i : Positioned = record { position = k; order = o } in
    let left : Order = record o { rest = o.rest - taken i } in
    left_if (is_named m r) left _ (nat_lt 0 left.rest) parts.0 (unnamed_from m r (k + 1) taken os parts.1)

-- a name that no order had, none has afterwards
pub unnamed-after : (m r : ℕ) (taken : Positioned → ℕ) (orders : List Order) → list_any (is_named m r) orders ≡ false → list_any (is_named m r) (without_units taken orders) ≡ false
unnamed-after m r taken orders h = unnamed_from m r 0 taken orders h

-- the sweep that a tape's prices make
pub same-sweep : (t : TapeView) (last last_auction : ℕ) (orders : List Order) (incoming : Order) (widths : Widths) → last ≡ last_price t.opening t.trades → last_auction ≡ last_auction_price t.opening t.trades
    → sweep_over orders incoming last last_auction widths ≡ swept_by t orders incoming widths
same-sweep t last last_auction orders incoming widths e f = rw (e, f) refl

-- no trade is larger than the incoming order
pub sized-swept : (number : ℕ) (w : Sweep) → is_in_range w.incoming.rest ≡ true → AreSized (sweep_trades number w)
sized-swept number w rest =
    let small = range_high w.incoming.rest rest in
    All-weaker (λ (t : Trade). t.quantity ≤ w.incoming.rest) (λ (t : Trade). t.quantity ≤ MAX_QUANTITY) (λ t h. omega (arith, h, small)) (sweep_trades number w) (sweep_trades_sized number w)

some_left : (rest left : ℕ) → 0 < left → left ≤ rest → is_in_range rest ≡ true → is_in_range left ≡ true
some_left rest left some within h = grind (arith, nat_tests)

not_zero : (n : ℕ) → 0 < n → (n == 0) ≡ false
not_zero n some = grind (arith, nat_tests)

-- what rests of an order after its sweep can join, where it has units
pub rest-can-join : (u t : Unsettled) (o : Order) (left : ℕ)
    → t ≡ record u { state = swept u.state o; ready = if rest_after (settling.sweep_of u.state o) == 0 then Used else ForOrder (place_of o); seen = seen_after u.seen (sweep_events u.state o) } → CanJoin u o
    → left ≡ rest_after (settling.sweep_of u.state o) → 0 < left → CanJoin t (record o { rest = left })
rest-can-join u t o left after can is some =
    let w = settling.sweep_of u.state o in
    let within : rest_after w ≤ o.rest = omega arith in
    let kept = ap (λ (b : Bool). if b then Used else ForOrder (place_of o)) (not_zero (rest_after w) (omega (arith, is, some))) in
    record {
      ready = ap (λ (v : Unsettled). v.ready) after ∙ kept;
      name = ap (λ (v : Unsettled). has_order v.state o.member o.reference) after ∙ unnamed-after o.member o.reference (fill w) u.state.orders can.name;
      rest = some_left o.rest left some (omega (arith, is, within)) can.rest;
      accepted = omega (arith, ap (λ (v : Unsettled). v.state.accepted) after, ap (λ (v : Unsettled). v.state.settings.limit) after, can.accepted);
    }

-- ---- what is seen of a security that was swept

-- the sweep that a tape's prices make, which opened at this price
pub swept-from : (t : TapeView) (opening : ℕ) (orders : List Order) (incoming : Order) (widths : Widths) → t.opening ≡ opening
    → swept_by t orders incoming widths ≡ sweep_over orders incoming (last_price opening t.trades) (last_auction_price opening t.trades) widths
swept-from t opening orders incoming widths e = ap (λ (price : ℕ). sweep_over orders incoming (last_price price t.trades) (last_auction_price price t.trades) widths) e

pub is_zero : (n : ℕ) → n ≡ 0 → (n == 0) ≡ true
is_zero n e = rw e refl

pub is_not_zero : (n : ℕ) → (n ≡ 0 → ⊥) → (n == 0) ≡ false
is_not_zero zero some = absurd (some refl)
is_not_zero (suc n) some = not_zero (suc n) (omega arith)

abbrev pub phase_by : Phase → Option ℕ → Phase
phase_by before price = if is_some price then Call Interruption Interrupted else before

abbrev pub ready_by : Order → Bool → Ready
ready_by o filled = if filled then Used else ForOrder (place_of o)

pub swept-view : (v : Unsettled) (o : Order) (w : Sweep) → w ≡ settling.sweep_of v.state o
    → (phase : Phase) (orders : List Order) (trades : List Trade) (ready : Ready) (price : Option ℕ) → phase ≡ phase_by v.state.phase (interruption w) → orders ≡ orders_after_sweep w
    → trades ≡ v.state.trades ++ sweep_trades (v.state.sweeps + 1) w → ready ≡ ready_by o (rest_after w == 0) → price ≡ latest v.seen.interruption (interruption w)
    → record v { state = record v.state { phase = phase; orders = orders; trades = trades; sweeps = v.state.sweeps + 1 }; ready = ready; seen = record v.seen { interruption = price } }
    ≡ record v { state = swept v.state o; ready = ready_by o (rest_after (settling.sweep_of v.state o) == 0); seen = seen_after v.seen (sweep_events v.state o) }
swept-view v o w same phase orders trades ready price is_phase are_orders are_trades is_ready is_price =
    let of : Sweep → Unsettled = λ x. record v {
      state = record v.state { phase = if is_interrupted x then Call Interruption Interrupted else v.state.phase; orders = orders_after_sweep x; trades = v.state.trades ++ sweep_trades (v.state.sweeps + 1) x; sweeps = v.state.sweeps + 1 };
      ready = ready_by o (rest_after x == 0);
      seen = record v.seen { interruption = latest v.seen.interruption (interruption x) };
    } in
    let interrupted : phase ≡ (if is_interrupted w then Call Interruption Interrupted else v.state.phase) =
    is_phase ∙ (λ i. if sym (interrupted-by w) i then Call Interruption Interrupted else v.state.phase) in
    let here : record v { state = record v.state { phase = phase; orders = orders; trades = trades; sweeps = v.state.sweeps + 1 }; ready = ready; seen = record v.seen { interruption = price } } ≡ of w =
    (λ i. record v {
      state = record (v.state) { phase = interrupted i; orders = are_orders i; trades = are_trades i; sweeps = v.state.sweeps + 1 };
      ready = is_ready i;
      seen = record (v.seen) { interruption = is_price i };
    }) in
    let told : Seen → Unsettled = λ seen. record v { state = swept v.state o; ready = ready_by o (rest_after (settling.sweep_of v.state o) == 0); seen = seen } in
    here ∙ ap of same ∙ ap told (sym (sweep-seen v.seen v.state o))

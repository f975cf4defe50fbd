-- The end of a call, told by what is seen after it.
use Rattle.std.proofs.Common.{ℕ, ◌+◌, ◌-◌, min, max, Bool, true, false, if◌then◌else◌, List, [], ◌∷◌, ◌++◌, All, IfSome, get_or, Option, Some, None, refl, sym, ap, ◌∙◌}
use Rattle.std.specs.List.{filter_map, flat_map}
use Rattle.std.specs.Prelude.{nat_lt}
use Rattle.std.proofs.lemmas.List.{map-append}
use Rattle.xm_events.specs.Life.{bare}
use Rattle.xm_events.specs.Story.{determined_events, fills, rest_in, uncross_at_events, uncross_events}
use Rattle.xm_events.specs.SeenStory.{Outcome, bare_fills, trades_numbered, untraded, seen_uncross}
use Rattle.xm_events.specs.declared.events.Event.{Event}
use Rattle.xm_events.specs.declared.events.Event.TheVariants.{Began}
use Rattle.xm_rules.specs.Active.{Positioned}
use Rattle.xm_rules.specs.Allotment.{Uncrossing, auction_trades, end_unit, first_unit, orders_after_call, parties, trade_of_pair, traded_units}
use Rattle.xm_rules.specs.Auction.{auction_price}
use Rattle.xm_rules.specs.Orders.{trade_between}
use Rattle.xm_rules.specs.Settling.{is_reached}
use Rattle.xm_rules.specs.State.{State, ranges, ref1}
use Rattle.xm_rules.specs.Step.{determined, next_phase, stage_after, traded, uncrossed, uncrossed_at}
use Rattle.xm_rules.specs.declared.orders.Side.TheVariants.{Buy, Sell}
use Rattle.xm_rules.specs.declared.orders.Trade.{Trade}
use Rattle.xm_rules.specs.declared.orders.TradeKind.TheVariants as made
use Rattle.xm_rules.specs.declared.phases.Auction.{Auction}
use Rattle.xm_rules.specs.declared.phases.CallStage.{CallStage}
use Rattle.xm_rules.specs.declared.phases.Phase.{Phase}
use Rattle.xm_rules.specs.declared.phases.Phase.TheVariants.{PreTrading, Call, Continuous, PostTrading, Ended}
use Rattle.xm_rules.proofs.CallTrades.{All-filter_map, All-flat_map, All-in_order, call_of}
use Rattle.xm_rules.proofs.ReachedStops.{NoneReached}
use Rattle.xm_events.proofs.InEvents.{bare_of_fills, fills-tell_no_price}
use Rattle.xm_events.proofs.Numbers.{Bears}
use Rattle.xm_events.proofs.SeenOrders.{none_of}
use Rattle.xm_events.proofs.SeenParts.{Fits, IsQuiet, IsSeenSo, TakesNext, last_other, last_same, next_trades, own_price, phase_stays, quietly, taking_next, seen_as}

-- ---- the trades of a call bear its number

pair_bears : (number : ℕ) (u : Uncrossing) (b s : Positioned) (from to : ℕ) → IfSome (traded_units number u b s from to) (λ (x : ℕ × Trade). Bears number x.1)
pair_bears number u b s from to = by (nat_lt from to) where
  by : (t : Bool) → IfSome (if t then Some (from, trade_between number (made.Auction u.auction u.stage) u.price (to - from) Buy b.order s.order) else None) (λ (x : ℕ × Trade). Bears number x.1)
  by true = refl
  by false = tt

call_bears : (number : ℕ) (u : Uncrossing) → All (Bears number) (auction_trades number u)
call_bears number u =
    let with_sells = λ (b : Positioned). filter_map (trade_of_pair number u b) (parties u Sell) in
    All-in_order (Bears number) (flat_map with_sells (parties u Buy))
    (All-flat_map (λ (x : ℕ × Trade). Bears number x.1) with_sells (parties u Buy)
    (λ b. All-filter_map (λ (x : ℕ × Trade). Bears number x.1) (trade_of_pair number u b) (parties u Sell)
    (λ k d l. (let s = get_or (parties u Sell) k d in pair_bears number u b s (max (first_unit u Buy b) (first_unit u Sell s)) (min (end_unit u Buy b) (end_unit u Sell s))))))

-- ---- a call that has a price

call_takes_next : (s : State) (u : Uncrossing) → TakesNext s (traded s u) (determined_events s u None)
call_takes_next s u =
    record {
      own = auction_trades (s.sweeps + 1) u;
      trades = refl;
      bear = call_bears (s.sweeps + 1) u;
      sweeps = refl;
      settings = refl;
      goes_on = λ c. fills-tell_no_price (rest_in (orders_after_call u)) (auction_trades (s.sweeps + 1) u) (Began (next_phase u.auction) ∷ []);
    }

module _ (s : State) (auction : Auction) (stage : CallStage) (outcome : Outcome) (trades : List Trade) (phase : Phase) (none : NoneReached s) where
  determined_seen : (priced : ℕ × ℕ) (next : Option CallStage) → Fits s (determined s (call_of s auction stage priced) next) (determined_events s (call_of s auction stage priced) next) outcome trades phase
      → IsSeenSo s (determined s (call_of s auction stage priced) next) (determined_events s (call_of s auction stage priced) next) (seen_uncross outcome s.sweeps (ranges s) (Call auction stage) trades phase) outcome trades
  unfolding call_takes_next
  determined_seen priced None fits =
      let u = call_of s auction stage priced in
      let own = auction_trades (s.sweeps + 1) u in
      let a = traded s u in
      let es = determined_events s u None in
      let next = call_takes_next s u in
      let other = last_other s a es outcome trades phase fits next in
      let its_fills = bare_fills (trades_numbered (s.sweeps + 1) trades) ++ Began (next_phase auction) ∷ [] in
      seen_as s a es its_fills (seen_uncross outcome s.sweeps (ranges s) (Call auction stage) trades phase) outcome trades
      (sym (λ k. if other k then untraded (ranges s) auction stage outcome.interruption phase else its_fills))
      (taking_next s a es outcome trades phase fits next its_fills
      (map-append bare (fills (rest_in (orders_after_call u)) own) (Began (next_phase auction) ∷ [])
      ∙ ap (λ (xs : List Event). xs ++ Began (next_phase auction) ∷ [])
      (bare_of_fills (rest_in (orders_after_call u)) own ∙ ap bare_fills (sym (next_trades s a es outcome trades phase fits next)))))
  determined_seen priced (Some later) fits =
      let u = call_of s auction stage priced in
      let a = determined s u (Some later) in
      let es = determined_events s u (Some later) in
      let quiet : IsQuiet s a = record { trades = refl; sweeps = refl; none = none_of (is_reached (ref1 s)) s.stops none } in
      let same = last_same s a es outcome trades phase fits quiet in
      let price = own_price s a es outcome trades phase fits quiet in
      let stays = phase_stays s a es outcome trades phase fits quiet in
      quietly s a es outcome trades phase fits quiet (seen_uncross outcome s.sweeps (ranges s) (Call auction stage) trades phase)
      (sym (λ k. if same k then untraded (ranges s) auction stage (price k) (stays k) else bare_fills (trades_numbered (s.sweeps + 1) trades) ++ Began (next_phase auction) ∷ []))

  priced_seen : (priced : Option (ℕ × ℕ)) → Fits s (uncrossed_at s auction stage priced) (uncross_at_events s auction stage priced) outcome trades phase
      → IsSeenSo s (uncrossed_at s auction stage priced) (uncross_at_events s auction stage priced) (seen_uncross outcome s.sweeps (ranges s) (Call auction stage) trades phase) outcome trades
  priced_seen None fits =
      let a = uncrossed_at s auction stage None in
      let es = uncross_at_events s auction stage None in
      let quiet : IsQuiet s a = record { trades = refl; sweeps = refl; none = none_of (is_reached (ref1 s)) s.stops none } in
      let same = last_same s a es outcome trades phase fits quiet in
      let price = own_price s a es outcome trades phase fits quiet in
      quietly s a es outcome trades phase fits quiet (seen_uncross outcome s.sweeps (ranges s) (Call auction stage) trades phase)
      (sym (λ k. if same k then untraded (ranges s) auction stage (price k) phase else bare_fills (trades_numbered (s.sweeps + 1) trades) ++ Began (next_phase auction) ∷ []))
  priced_seen (Some priced) fits = determined_seen priced (stage_after (ranges s) stage priced.0) fits

idle_seen : (s : State) (outcome : Outcome) (trades : List Trade) (phase : Phase) → NoneReached s → Fits s s [] outcome trades phase → IsSeenSo s s [] [] outcome trades
idle_seen s outcome trades phase none fits = quietly s s [] outcome trades phase fits (record { trades = refl; sweeps = refl; none = none_of (is_reached (ref1 s)) s.stops none }) [] refl

pub uncrossing_seen : (s : State) (now : Phase) (outcome : Outcome) (trades : List Trade) (phase : Phase) → NoneReached s → Fits s (uncrossed s now) (uncross_events s now) outcome trades phase
    → IsSeenSo s (uncrossed s now) (uncross_events s now) (seen_uncross outcome s.sweeps (ranges s) now trades phase) outcome trades
uncrossing_seen s (Call auction stage) outcome trades phase none fits = priced_seen s auction stage outcome trades phase none (auction_price (Call auction stage) s.orders (ref1 s)) fits
uncrossing_seen s PreTrading outcome trades phase none fits = idle_seen s outcome trades phase none fits
uncrossing_seen s Continuous outcome trades phase none fits = idle_seen s outcome trades phase none fits
uncrossing_seen s PostTrading outcome trades phase none fits = idle_seen s outcome trades phase none fits
uncrossing_seen s Ended outcome trades phase none fits = idle_seen s outcome trades phase none fits

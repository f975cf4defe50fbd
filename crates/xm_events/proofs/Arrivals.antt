-- Orders that come in, told by the numbers that they take.
use Rattle.std.proofs.Common.{◌≡◌, ℕ, ◌+◌, ◌<◌, ◌==◌, Bool, true, false, if◌then◌else◌, List, [], ◌∷◌, ◌++◌, eq-eqb, is_some, map, Option, Some, None, refl, sym, ap, ap₂, ◌∙◌, arith}
use Rattle.std.proofs.lemmas.Bool.{eqb-true}
use Rattle.std.proofs.lemmas.Bool.Decides.{nat_tests}
use Rattle.std.proofs.lemmas.List.{map-append}
use Rattle.xm_events.specs.Life.{bare}
use Rattle.xm_events.specs.Seen.{latest}
use Rattle.xm_events.specs.Story.{fills, interrupted_events, interruption, left_by_sweep, sweep_events}
use Rattle.xm_events.specs.SeenStory.{Outcome, arrival, arrivals, bare_fills, trades_numbered}
use Rattle.xm_events.specs.declared.events.Event.{Event}
use Rattle.xm_events.specs.declared.events.Event.TheVariants.{Triggered}
use Rattle.xm_rules.specs.Settling.{is_continuous, sweep_of}
use Rattle.xm_rules.specs.State.{State, last_price, ranges, ref1}
use Rattle.xm_rules.specs.Sweep.{is_interrupted, sweep_trades}
use Rattle.xm_rules.specs.declared.orders.Order.{Order}
use Rattle.xm_rules.specs.declared.orders.Stop.{Stop}
use Rattle.xm_rules.specs.declared.orders.Trade.{Trade}
use Rattle.xm_rules.specs.declared.phases.Auction.TheVariants.{Interruption}
use Rattle.xm_rules.specs.declared.phases.CallStage.TheVariants.{Interrupted}
use Rattle.xm_rules.specs.declared.phases.Phase.TheVariants.{Call}
use Rattle.xm_events.proofs.InEvents.{bare_interrupted, bare_of_fills, price_told}
use Rattle.xm_events.proofs.Numbers.{IsSwept, own_are, own_numbers}
use Rattle.xm_events.proofs.Seeing.{interrupted-by}
use Rattle.xm_events.proofs.Settled.{Settles}

pub last_price-append : (price : ℕ) (ts us : List Trade) → last_price price (ts ++ us) ≡ last_price (last_price price ts) us
last_price-append price [] us = refl
last_price-append price (t ∷ ts) us = last_price-append t.price ts us

-- no trade bears this number, and it isn't the last
pub missed : (outcome : Outcome) (number last : ℕ) (ts : List Trade) → ts ≡ [] → (number == outcome.last) ≡ false → arrival outcome number last ts ≡ []
missed outcome number last ts none other =
    λ k. bare_fills (trades_numbered number (none k)) ++ (if other k then interrupted_events (record { ref1 = last; ref2 = last; widths = outcome.widths }) outcome.interruption else [])

pub other_number : (a b : ℕ) → b < a → (a == b) ≡ false
other_number a b l = grind (arith, nat_tests)

-- stops that take no number are only triggered
pub only_triggered : (outcome : Outcome) (number last : ℕ) (stops : List Stop) → outcome.last < number → arrivals outcome number last [] stops ≡ map (λ (stop : Stop). Triggered stop) stops
only_triggered outcome number last [] l = refl
only_triggered outcome number last (stop ∷ stops) l =
    ap₂ (λ (es fs : List Event). Triggered stop ∷ (es ++ fs)) (missed outcome number last [] refl (other_number number outcome.last l))
    (only_triggered outcome (number + 1) last stops (omega (arith, l)))

-- an order is swept, and what follows tells these events
module _ (s : State) (o : Order) (u t : State) (es : List Event) (swept : IsSwept s o u) (after : Settles u t es) where
  abbrev pub own_trades : List Trade
  own_trades = sweep_trades (s.sweeps + 1) (sweep_of s o)

  own_here : (trades : List Trade) → t.trades ≡ s.trades ++ trades → trades_numbered (s.sweeps + 1) trades ≡ own_trades
  own_here trades e = own_are s u t own_trades swept.trades (own_numbers s o) swept.sweeps after.later trades e

  -- trading goes on where no price interrupts it, and else it doesn't
  pub interrupted_then : (price : ℕ) → interruption (sweep_of s o) ≡ Some price → is_continuous u.phase ≡ false
  interrupted_then price e =
      let there : is_interrupted (sweep_of s o) ≡ true = interrupted-by (sweep_of s o) ∙ ap is_some e in
      ap is_continuous swept.phase ∙ (λ k. is_continuous (if there k then Call Interruption Interrupted else s.phase))

  none_if : (price : Option ℕ) → interruption (sweep_of s o) ≡ price → is_continuous u.phase ≡ true → price ≡ None
  none_if None e goes_on = refl
  none_if (Some price) e goes_on = absurd (let ends = interrupted_then price e in cc)

  pub uninterrupted_then : is_continuous u.phase ≡ true → interruption (sweep_of s o) ≡ None
  uninterrupted_then goes_on = none_if (interruption (sweep_of s o)) refl goes_on

  module _ (outcome : Outcome) (widths : outcome.widths ≡ s.settings.widths) (last : outcome.last ≡ t.sweeps)
      (price_is : outcome.interruption ≡ latest (interruption (sweep_of s o)) (price_told es)) where
    -- the price of the interruption is that of this sweep where this is the last one
    price_if : (price : Option ℕ) → interruption (sweep_of s o) ≡ price
        → interrupted_events (ranges s) price ≡ (if s.sweeps + 1 == outcome.last then interrupted_events (record { ref1 = ref1 s; ref2 = ref1 s; widths = outcome.widths }) outcome.interruption else [])
    price_if None e = by (s.sweeps + 1 == outcome.last) refl where
      by : (b : Bool) → (s.sweeps + 1 == outcome.last) ≡ b
          → [] ≡ (if s.sweeps + 1 == outcome.last then interrupted_events (record { ref1 = ref1 s; ref2 = ref1 s; widths = outcome.widths }) outcome.interruption else [])
      by true is_last =
          let same : t.sweeps ≡ u.sweeps = (let it = eqb-true (s.sweeps + 1) outcome.last is_last in omega (arith, it, last, swept.sweeps)) in
          let none : outcome.interruption ≡ None = price_is ∙ ap₂ latest e (after.none same) in
          sym (λ k. if is_last k then interrupted_events (record { ref1 = ref1 s; ref2 = ref1 s; widths = outcome.widths }) (none k) else [])
      by false other = sym (λ k. if other k then interrupted_events (record { ref1 = ref1 s; ref2 = ref1 s; widths = outcome.widths }) outcome.interruption else [])
    price_if (Some price) e =
        let quiet = after.quiet (interrupted_then price e) in
        let is_last : (s.sweeps + 1 == outcome.last) ≡ true = eq-eqb (s.sweeps + 1) outcome.last (let same = quiet.1 in omega (arith, same, last, swept.sweeps)) in
        let its : outcome.interruption ≡ Some price = price_is ∙ ap₂ latest e quiet.0 in
        sym (λ k. if is_last k then interrupted_events (record { ref1 = ref1 s; ref2 = ref1 s; widths = widths k }) (its k) else [])

    -- the sweep is told by its number
    pub sweep_arrives : (trades : List Trade) → t.trades ≡ s.trades ++ trades → map bare (sweep_events s o) ≡ arrival outcome (s.sweeps + 1) (ref1 s) trades
    sweep_arrives trades e =
        let w = sweep_of s o in
        map-append bare (fills (left_by_sweep w) own_trades) (interrupted_events (ranges s) (interruption w))
        ∙ ap₂ (λ (xs ys : List Event). xs ++ ys) (bare_of_fills (left_by_sweep w) own_trades ∙ ap bare_fills (sym (own_here trades e)))
        (bare_interrupted (ranges s) (interruption w) ∙ price_if (interruption w) refl)

-- the last price behind more trades
pub ref1_behind : (s u : State) (own : List Trade) → u.settings ≡ s.settings → u.trades ≡ s.trades ++ own → ref1 u ≡ last_price (ref1 s) own
ref1_behind s u own settings trades = (λ k. last_price (settings k).reference (trades k)) ∙ last_price-append s.settings.reference s.trades own

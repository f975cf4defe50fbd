-- The stops that come in are told by the numbers that they take.
use Rattle.std.proofs.Common.{◌≡◌, ℕ, ◌+◌, zero, suc, Bool, true, false, List, [], ◌∷◌, ◌++◌, map, Option, refl, sym, ap, ap₂, ◌∙◌, arith}
use Rattle.std.proofs.lemmas.List.{map-append}
use Rattle.xm_events.specs.Life.{bare}
use Rattle.xm_events.specs.Seen.{latest}
use Rattle.xm_events.specs.Story.{come_events, interruption, pending_events, settle_in_events, sweep_events}
use Rattle.xm_events.specs.SeenStory.{Outcome, arrivals, trades_behind, trades_numbered}
use Rattle.xm_events.specs.declared.events.Event.{Event}
use Rattle.xm_events.specs.declared.events.Event.TheVariants.{Triggered}
use Rattle.xm_rules.specs.Settling.{come, is_continuous, order_of_stop, reached, released, settle_in, sweep_of, take_pending}
use Rattle.xm_rules.specs.State.{State, last_price, ref1}
use Rattle.xm_rules.specs.Sweep.{sweep_trades}
use Rattle.xm_rules.specs.declared.orders.Stop.{Stop}
use Rattle.xm_rules.specs.declared.orders.Trade.{Trade}
use Rattle.xm_rules.specs.declared.settings.DeskSettings.{DeskSettings}
use Rattle.xm_events.proofs.Arrivals.{uninterrupted_then, only_triggered, ref1_behind, sweep_arrives}
use Rattle.xm_events.proofs.InEvents.{latest-none, price-append, price_told, stops-append, stops_told, sweeping-price, sweeping-stops}
use Rattle.xm_events.proofs.Numbers.{come_joins, come_sweeps, no_more_trades, others_are, own_are, own_numbers, same_behind}
use Rattle.xm_events.proofs.Settled.{Settles, joining_tells, settled_in, stop_sweeps, sweeping_told}

-- what leads from a state and its pending stops to another one is told by numbers, where its price is what the outcome has, if trading goes on
abbrev pub AreArrivals : Outcome → (State → List Stop → State) → (State → List Stop → List Event) → Type 0
AreArrivals outcome more telling = (s : State) (pending : List Stop) (trades : List Trade) → outcome.widths ≡ s.settings.widths → outcome.last ≡ (more s pending).sweeps
    → (is_continuous s.phase ≡ true → outcome.interruption ≡ price_told (telling s pending)) → (more s pending).trades ≡ s.trades ++ trades
    → map bare (telling s pending) ≡ arrivals outcome (s.sweeps + 1) (ref1 s) trades (stops_told (telling s pending))

module _ (outcome : Outcome) (more : State → List Stop → State) (telling : State → List Stop → List Event)
    (each : (s : State) (pending : List Stop) → Settles s (more s pending) (telling s pending)) (arrive : AreArrivals outcome more telling) where
  module _ (s : State) (stop : Stop) (stops : List Stop) (trades : List Trade) (widths : outcome.widths ≡ s.settings.widths)
      (last : outcome.last ≡ (more (come s (order_of_stop stop)) stops).sweeps)
      (price_is : is_continuous s.phase ≡ true → outcome.interruption ≡ price_told (come_events s (order_of_stop stop) ++ telling (come s (order_of_stop stop)) stops))
      (trades_are : (more (come s (order_of_stop stop)) stops).trades ≡ s.trades ++ trades) where
    abbrev u : State
    u = come s (order_of_stop stop)

    abbrev es : List Event
    es = telling u stops

    abbrev coming : List Event
    coming = come_events s (order_of_stop stop)

    abbrev Told : Type 0
    Told = map bare (Triggered stop ∷ (coming ++ es)) ≡ arrivals outcome (s.sweeps + 1) (ref1 s) trades (stop ∷ stops_told (coming ++ es))

    -- its order is swept
    first_swept : is_continuous s.phase ≡ true → Told
    first_swept e =
        let o = order_of_stop stop in
        let number = s.sweeps + 1 in
        let t = more u stops in
        let on = stop_sweeps s stop true e in
        let swept = come_sweeps s o on in
        let after = each u stops in
        let told = sweeping_told s o on in
        let own_trades = sweep_trades number (sweep_of s o) in
        let own = own_are s u t own_trades swept.trades (own_numbers s o) swept.sweeps after.later trades trades_are in
        let price : outcome.interruption ≡ latest (interruption (sweep_of s o)) (price_told es) =
        price_is e ∙ ap (λ (xs : List Event). price_told (xs ++ es)) told ∙ price-append (sweep_events s o) es ∙ ap (λ (p : Option ℕ). latest p (price_told es)) (sweeping-price s o) in
        let front = ap (map bare) told ∙ sweep_arrives s o u t es swept after outcome widths last price trades trades_are in
        let behind = arrive u stops after.later.more (widths ∙ ap (λ (d : DeskSettings). d.widths) (sym swept.settings)) last
        (λ goes_on. price ∙ ap (λ (p : Option ℕ). latest p (price_told es)) (uninterrupted_then s o u t es swept after goes_on) ∙ latest-none (price_told es)) after.later.trades in
        let last_price_is : ref1 u ≡ last_price (ref1 s) (trades_numbered number trades) = ref1_behind s u own_trades swept.settings swept.trades ∙ ap (last_price (ref1 s)) (sym own) in
        let others : after.later.more ≡ trades_behind number trades = sym (others_are s u t own_trades swept.trades (own_numbers s o) swept.sweeps after.later trades trades_are) in
        let same_stops : stops_told (coming ++ es) ≡ stops_told es =
        ap (λ (xs : List Event). stops_told (xs ++ es)) told ∙ stops-append (sweep_events s o) es ∙ ap (λ (xs : List Stop). xs ++ stops_told es) (sweeping-stops s o) in
        ap (λ (xs : List Event). Triggered stop ∷ xs)
        (map-append bare coming es
        ∙ ap₂ (λ (xs ys : List Event). xs ++ ys) front (behind ∙ (λ k. arrivals outcome (swept.sweeps k + 1) (last_price_is k) (others k) (stops_told es))))
        ∙ ap (λ (more_stops : List Stop). arrivals outcome number (ref1 s) trades (stop ∷ more_stops)) (sym same_stops)

    -- outside of continuous trading it joins, and takes no number, as those behind it
    first_joins : is_continuous s.phase ≡ false → Told
    first_joins e =
        let o = order_of_stop stop in
        let number = s.sweeps + 1 in
        let t = more u stops in
        let off = stop_sweeps s stop false e in
        let joins = come_joins s o off in
        let after = each u stops in
        let told = joining_tells s o off in
        let sweeps : u.sweeps ≡ s.sweeps = ap (λ (x : State). x.sweeps) joins in
        let ended : is_continuous u.phase ≡ false = ap (λ (x : State). is_continuous x.phase) joins ∙ e in
        let quiet = after.quiet ended in
        let none = no_more_trades u t after.later quiet.1 in
        let no_trades : trades ≡ [] =
        same_behind s.trades trades after.later.more (sym trades_are ∙ after.later.trades ∙ ap (λ (x : State). x.trades ++ after.later.more) joins) ∙ none in
        let same : t.sweeps ≡ u.sweeps = quiet.1 in
        let behind = arrive u stops [] (widths ∙ ap (λ (x : State). x.settings.widths) (sym joins)) last (λ goes_on. absurd (cc)) (after.later.trades ∙ ap (λ (ts : List Trade). u.trades ++ ts) none) in
        ap (λ (xs : List Event). Triggered stop ∷ map bare (xs ++ es)) told
        ∙ ap (λ (xs : List Event). Triggered stop ∷ xs) (behind ∙ only_triggered outcome (u.sweeps + 1) (ref1 u) (stops_told es) (omega (arith, last, same)))
        ∙ sym (only_triggered outcome number (ref1 s) (stop ∷ stops_told es) (omega (arith, last, same, sweeps)))
        ∙ (λ k. arrivals outcome number (ref1 s) (sym no_trades k) (stop ∷ stops_told (sym told k ++ es)))

    told_if : (b : Bool) → is_continuous s.phase ≡ b → Told
    told_if true e = first_swept e
    told_if false e = first_joins e

  taking_arrives : AreArrivals outcome (take_pending more) (pending_events telling)
  taking_arrives s [] trades widths last price_is trades_are = refl
  taking_arrives s (stop ∷ stops) trades widths last price_is trades_are = told_if s stop stops trades widths last price_is trades_are (is_continuous s.phase) refl

-- so it is for each number of turns
pub settling_arrives : (outcome : Outcome) (turns : ℕ) → AreArrivals outcome (settle_in turns) (settle_in_events turns)
settling_arrives outcome zero s pending trades widths last price_is trades_are = refl
settling_arrives outcome (suc turns) s pending trades widths last price_is trades_are =
    taking_arrives outcome (settle_in turns) (settle_in_events turns) (settled_in turns) (settling_arrives outcome turns) (released s) (pending ++ reached s) trades widths last price_is trades_are

-- What a command did itself, told by what is seen after it: where it took no number, no stop comes in behind it; else its trades bear
-- the next one, and those of the stops later ones.
use Rattle.std.proofs.Common.{◌≡◌, ℕ, ◌+◌, ◌==◌, true, false, List, [], ◌++◌, All, append-nil, eq-eqb, length, map, Option, None, sym, ap, ◌∙◌, arith}
use Rattle.xm_events.specs.Life.{bare}
use Rattle.xm_events.specs.Seen.{latest}
use Rattle.xm_events.specs.Story.{interruption, settle_events, sweep_events}
use Rattle.xm_events.specs.SeenStory.{Outcome, arrivals, own_arrival, trades_behind, trades_numbered}
use Rattle.xm_events.specs.declared.events.Event.{Event}
use Rattle.xm_rules.specs.Settling.{is_continuous, reached, settle, sweep_of}
use Rattle.xm_rules.specs.State.{State, last_price, ref1}
use Rattle.xm_rules.specs.Sweep.{sweep_trades}
use Rattle.xm_rules.specs.declared.orders.Order.{Order}
use Rattle.xm_rules.specs.declared.orders.Stop.{Stop}
use Rattle.xm_rules.specs.declared.orders.Trade.{Trade}
use Rattle.xm_rules.specs.declared.phases.Phase.{Phase}
use Rattle.xm_rules.specs.declared.settings.DeskSettings.{DeskSettings}
use Rattle.xm_rules.proofs.ReachedStops.{settle-none}
use Rattle.xm_events.proofs.Arrivals.{missed, other_number, ref1_behind, sweep_arrives, uninterrupted_then}
use Rattle.xm_events.proofs.InEvents.{latest-none, price_told, stops_told}
use Rattle.xm_events.proofs.Numbers.{Bears, IsSwept, others_are, own_are, own_numbers, same_behind}
use Rattle.xm_events.proofs.Settled.{Settles, settled_in}
use Rattle.xm_events.proofs.Settlings.{settling-none}
use Rattle.xm_events.proofs.SeenStops.{settling_arrives}

-- a command led from a state to another one, by these events, and then stops came in; what is seen of all that
pub record Fits (s a : State) (es : List Event) (outcome : Outcome) (trades : List Trade) (phase : Phase) : Type 0 where
  pub widths : outcome.widths ≡ s.settings.widths
  pub last : outcome.last ≡ (settle a []).sweeps
  pub price : outcome.interruption ≡ latest (price_told es) (price_told (settle_events a []))
  pub trades_are : (settle a []).trades ≡ s.trades ++ trades
  pub phase_is : phase ≡ (settle a []).phase

-- its events are told so, and the stops by the numbers behind the next one
pub record IsSeenSo (s a : State) (es own : List Event) (outcome : Outcome) (trades : List Trade) : Type 0 where
  pub own_so : map bare es ≡ own
  pub stops_so : map bare (settle_events a [])
      ≡ arrivals outcome (s.sweeps + 1 + 1) (last_price (ref1 s) (trades_numbered (s.sweeps + 1) trades)) (trades_behind (s.sweeps + 1) trades) (stops_told (settle_events a []))

pub seen_as : (s a : State) (es own other : List Event) (outcome : Outcome) (trades : List Trade) → own ≡ other → IsSeenSo s a es own outcome trades → IsSeenSo s a es other outcome trades
seen_as s a es own other outcome trades e w = record { own_so = w.own_so ∙ e; stops_so = w.stops_so }

-- ---- where no number is taken

pub record IsQuiet (s a : State) : Type 0 where
  pub trades : a.trades ≡ s.trades
  pub sweeps : a.sweeps ≡ s.sweeps
  pub none : reached a ≡ []

module _ (s a : State) (es : List Event) (outcome : Outcome) (trades : List Trade) (phase : Phase) (fits : Fits s a es outcome trades phase) (quiet : IsQuiet s a) where
  none_come : settle_events a [] ≡ []
  none_come = settling-none a [] quiet.none

  pub none_traded : trades ≡ []
  none_traded =
      same_behind s.trades trades []
      (sym fits.trades_are ∙ ap (λ (x : State). x.trades) (settle-none a [] quiet.none) ∙ quiet.trades ∙ sym (append-nil s.trades))

  pub last_stays : outcome.last ≡ s.sweeps
  last_stays = fits.last ∙ ap (λ (x : State). x.sweeps) (settle-none a [] quiet.none) ∙ quiet.sweeps

  pub last_same : (outcome.last == s.sweeps) ≡ true
  last_same = eq-eqb outcome.last s.sweeps last_stays

  pub own_price : outcome.interruption ≡ price_told es
  own_price = fits.price ∙ ap (λ (xs : List Event). latest (price_told es) (price_told xs)) none_come

  pub phase_stays : phase ≡ a.phase
  phase_stays = fits.phase_is ∙ ap (λ (x : State). x.phase) (settle-none a [] quiet.none)

  -- an order that isn't swept doesn't arrive
  pub none_arrives : own_arrival outcome s.sweeps (ref1 s) trades ≡ []
  none_arrives = missed outcome (s.sweeps + 1) (ref1 s) trades none_traded (other_number (s.sweeps + 1) outcome.last (let same = last_stays in omega (arith, same)))

  pub quietly : (own : List Event) → map bare es ≡ own → IsSeenSo s a es own outcome trades
  quietly own e =
      record {
        own_so = e;
        stops_so = ap (map bare) none_come
            ∙ sym (ap (λ (xs : List Event). arrivals outcome (s.sweeps + 1 + 1) (last_price (ref1 s) (trades_numbered (s.sweeps + 1) trades)) (trades_behind (s.sweeps + 1) trades) (stops_told xs)) none_come);
      }

-- ---- where the next number is taken

-- trades of the next number; where trading goes on behind them, it wasn't interrupted
pub record TakesNext (s a : State) (es : List Event) : Type 0 where
  pub own : List Trade
  pub trades : a.trades ≡ s.trades ++ own
  pub bear : All (Bears (s.sweeps + 1)) own
  pub sweeps : a.sweeps ≡ s.sweeps + 1
  pub settings : a.settings ≡ s.settings
  pub goes_on : is_continuous a.phase ≡ true → price_told es ≡ None

-- what the stops did
pub settled : (a : State) → Settles a (settle a []) (settle_events a [])
settled a = settled_in (length a.stops + 0) a []

module _ (s a : State) (es : List Event) (outcome : Outcome) (trades : List Trade) (phase : Phase) (fits : Fits s a es outcome trades phase) (next : TakesNext s a es) where
  pub next_trades : trades_numbered (s.sweeps + 1) trades ≡ next.own
  next_trades = own_are s a (settle a []) next.own next.trades next.bear next.sweeps (settled a).later trades fits.trades_are

  pub last_other : (outcome.last == s.sweeps) ≡ false
  last_other = other_number outcome.last s.sweeps (let counted = (settled a).later.counted in let last = fits.last in omega (arith, counted, last, next.sweeps))

  pub taking_next : (own : List Event) → map bare es ≡ own → IsSeenSo s a es own outcome trades
  taking_next own e =
      let after = settled a in
      let last_price_is : ref1 a ≡ last_price (ref1 s) (trades_numbered (s.sweeps + 1) trades) = ref1_behind s a next.own next.settings next.trades ∙ ap (last_price (ref1 s)) (sym next_trades) in
      let others : after.later.more ≡ trades_behind (s.sweeps + 1) trades = sym (others_are s a (settle a []) next.own next.trades next.bear next.sweeps after.later trades fits.trades_are) in
      record {
        own_so = e;
        stops_so = settling_arrives outcome (length a.stops + 0) a [] after.later.more (fits.widths ∙ ap (λ (d : DeskSettings). d.widths) (sym next.settings)) fits.last
            (λ c. fits.price ∙ ap (λ (p : Option ℕ). latest p (price_told (settle_events a []))) (next.goes_on c) ∙ latest-none (price_told (settle_events a []))) after.later.trades
            ∙ (λ k. arrivals outcome (next.sweeps k + 1) (last_price_is k) (others k) (stops_told (settle_events a [])));
      }

-- ---- where an order is swept, that finds other orders and stops

module _ (s : State) (os : List Order) (stops : List Stop) (o : Order) (a : State) (es : List Event) (swept : IsSwept (record s { orders = os; stops = stops }) o a)
    (price_is : price_told es ≡ interruption (sweep_of (record s { orders = os; stops = stops }) o)) where
  abbrev found : State
  found = record s { orders = os; stops = stops }

  pub sweep_takes_next : TakesNext s a es
  sweep_takes_next =
      record {
        own = sweep_trades (s.sweeps + 1) (sweep_of found o);
        trades = swept.trades;
        bear = own_numbers found o;
        sweeps = swept.sweeps;
        settings = swept.settings;
        goes_on = λ c. price_is ∙ uninterrupted_then found o a (settle a []) (settle_events a []) swept (settled a) c;
      }

  module _ (outcome : Outcome) (trades : List Trade) (phase : Phase) (fits : Fits s a es outcome trades phase) where
    -- it arrives with that number
    pub sweep_told : map bare (sweep_events found o) ≡ own_arrival outcome s.sweeps (ref1 s) trades
    sweep_told =
        sweep_arrives found o a (settle a []) (settle_events a []) swept (settled a) outcome fits.widths fits.last
        (fits.price ∙ ap (λ (p : Option ℕ). latest p (price_told (settle_events a []))) price_is) trades fits.trades_are

    pub sweep_trades_are : trades_numbered (s.sweeps + 1) trades ≡ sweep_trades (s.sweeps + 1) (sweep_of found o)
    unfolding sweep_takes_next
    sweep_trades_are = next_trades s a es outcome trades phase fits sweep_takes_next

    pub sweep_counts : (outcome.last == s.sweeps) ≡ false
    sweep_counts = last_other s a es outcome trades phase fits sweep_takes_next

    pub sweep_seen : (own : List Event) → map bare es ≡ own → IsSeenSo s a es own outcome trades
    sweep_seen own e = taking_next s a es outcome trades phase fits sweep_takes_next own e

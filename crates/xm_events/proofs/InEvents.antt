-- What stands in events: the stops that were triggered, and the price of an interruption. And events with bare fills.
use Rattle.std.proofs.Common.{◌≡◌, ℕ, ◌+◌, zero, suc, List, [], ◌∷◌, ◌++◌, append_assoc, append-nil, map, Option, Some, None, refl, sym, ap, ap₂, ◌∙◌}
use Rattle.std.proofs.lemmas.List.{map-append}
use Rattle.xm_events.specs.Life.{bare}
use Rattle.xm_events.specs.Seen.{Seen, latest, nothing_seen, seen_after}
use Rattle.xm_events.specs.Story.{fills, interrupted_events, interruption, killed_events, leave_events, left_by_sweep, sweep_events}
use Rattle.xm_events.specs.SeenStory.{bare_fills}
use Rattle.xm_events.specs.declared.events.Entry.{Entry}
use Rattle.xm_events.specs.declared.events.Entry.TheVariants as entry
use Rattle.xm_events.specs.declared.events.Event.{Event}
use Rattle.xm_events.specs.declared.events.Event.TheVariants.{Accepted, Changed, Filled, Triggered, Cancelled, Deleted, Interrupted, Began}
use Rattle.xm_rules.specs.Settling.{sweep_of}
use Rattle.xm_rules.specs.State.{Ranges, State, ranges}
use Rattle.xm_rules.specs.Sweep.{sweep_trades}
use Rattle.xm_rules.specs.declared.orders.Order.{Order}
use Rattle.xm_rules.specs.declared.orders.Stop.{Stop}
use Rattle.xm_rules.specs.declared.orders.Trade.{Trade}

-- ---- what is seen

abbrev pub stops_told : List Event → List Stop
stops_told [] = []
stops_told (Triggered stop ∷ es) = stop ∷ stops_told es
stops_told (e ∷ es) = stops_told es

abbrev pub price_told : List Event → Option ℕ
price_told [] = None
price_told (Interrupted price range ∷ es) = latest (Some price) (price_told es)
price_told (e ∷ es) = price_told es

pub latest-none : (price : Option ℕ) → latest None price ≡ price
latest-none None = refl
latest-none (Some price) = refl

latest-over : (before : Option ℕ) (price : ℕ) (after : Option ℕ) → latest (Some price) after ≡ latest before (latest (Some price) after)
latest-over before price None = refl
latest-over before price (Some later) = refl

latest-in_turn : (a b c : Option ℕ) → latest a (latest b c) ≡ latest (latest a b) c
latest-in_turn a b None = refl
latest-in_turn a b (Some price) = refl

pub stops-append : (es fs : List Event) → stops_told (es ++ fs) ≡ stops_told es ++ stops_told fs
stops-append [] fs = refl
stops-append (Triggered stop ∷ es) fs = ap (λ (stops : List Stop). stop ∷ stops) (stops-append es fs)
stops-append (Accepted gone ∷ es) fs = stops-append es fs
stops-append (Changed o ∷ es) fs = stops-append es fs
stops-append (Filled f ∷ es) fs = stops-append es fs
stops-append (Cancelled gone ∷ es) fs = stops-append es fs
stops-append (Deleted gone reason ∷ es) fs = stops-append es fs
stops-append (Interrupted price range ∷ es) fs = stops-append es fs
stops-append (Began phase ∷ es) fs = stops-append es fs

pub price-append : (es fs : List Event) → price_told (es ++ fs) ≡ latest (price_told es) (price_told fs)
price-append [] fs = sym (latest-none (price_told fs))
price-append (Interrupted price range ∷ es) fs = ap (latest (Some price)) (price-append es fs) ∙ latest-in_turn (Some price) (price_told es) (price_told fs)
price-append (Triggered stop ∷ es) fs = price-append es fs
price-append (Accepted gone ∷ es) fs = price-append es fs
price-append (Changed o ∷ es) fs = price-append es fs
price-append (Filled f ∷ es) fs = price-append es fs
price-append (Cancelled gone ∷ es) fs = price-append es fs
price-append (Deleted gone reason ∷ es) fs = price-append es fs
price-append (Began phase ∷ es) fs = price-append es fs

abbrev with_told : Seen → List Event → Seen
with_told seen es = record { triggered = seen.triggered ++ stops_told es; interruption = latest seen.interruption (price_told es) }

-- what is seen of events is what stands in them
seen-after_is : (seen : Seen) (es : List Event) → seen_after seen es ≡ with_told seen es
seen-after_is seen [] = ap (λ (stops : List Stop). record seen { triggered = stops }) (sym (append-nil seen.triggered))
seen-after_is seen (Triggered stop ∷ es) =
    seen-after_is (record seen { triggered = seen.triggered ++ stop ∷ [] }) es
    ∙ ap (λ (stops : List Stop). record (with_told seen es) { triggered = stops }) (append_assoc seen.triggered (stop ∷ []) (stops_told es))
seen-after_is seen (Interrupted price range ∷ es) =
    seen-after_is (record seen { interruption = Some price }) es
    ∙ ap (λ (p : Option ℕ). record (with_told seen es) { interruption = p }) (latest-over seen.interruption price (price_told es))
seen-after_is seen (Accepted gone ∷ es) = seen-after_is seen es
seen-after_is seen (Changed o ∷ es) = seen-after_is seen es
seen-after_is seen (Filled f ∷ es) = seen-after_is seen es
seen-after_is seen (Cancelled gone ∷ es) = seen-after_is seen es
seen-after_is seen (Deleted gone reason ∷ es) = seen-after_is seen es
seen-after_is seen (Began phase ∷ es) = seen-after_is seen es

pub seen-is : (es : List Event) → seen_after nothing_seen es ≡ record { triggered = stops_told es; interruption = price_told es }
seen-is es = seen-after_is nothing_seen es ∙ ap (λ (p : Option ℕ). let seen : Seen = record { triggered = stops_told es; interruption = p } in seen) (latest-none (price_told es))

-- ---- in the parts of a story

pub fills-tell_no_stop : (left : ℕ → ℕ → ℕ) (ts : List Trade) (es : List Event) → stops_told (fills left ts ++ es) ≡ stops_told es
fills-tell_no_stop left [] es = refl
fills-tell_no_stop left (t ∷ ts) es = fills-tell_no_stop left ts es

pub fills-tell_no_price : (left : ℕ → ℕ → ℕ) (ts : List Trade) (es : List Event) → price_told (fills left ts ++ es) ≡ price_told es
fills-tell_no_price left [] es = refl
fills-tell_no_price left (t ∷ ts) es = fills-tell_no_price left ts es

no_stop_there : (r : Ranges) (price : Option ℕ) → stops_told (interrupted_events r price) ≡ []
no_stop_there r None = refl
no_stop_there r (Some price) = refl

price_there : (r : Ranges) (price : Option ℕ) → price_told (interrupted_events r price) ≡ price
price_there r None = refl
price_there r (Some price) = refl

-- a sweep triggers no stop, and tells the price that interrupts it
pub sweeping-stops : (s : State) (o : Order) → stops_told (sweep_events s o) ≡ []
sweeping-stops s o =
    let w = sweep_of s o in
    fills-tell_no_stop (left_by_sweep w) (sweep_trades (s.sweeps + 1) w) (interrupted_events (ranges s) (interruption w)) ∙ no_stop_there (ranges s) (interruption w)

pub sweeping-price : (s : State) (o : Order) → price_told (sweep_events s o) ≡ interruption (sweep_of s o)
sweeping-price s o =
    let w = sweep_of s o in
    fills-tell_no_price (left_by_sweep w) (sweep_trades (s.sweeps + 1) w) (interrupted_events (ranges s) (interruption w)) ∙ price_there (ranges s) (interruption w)

-- ---- bare

pub bare_of_fills : (left : ℕ → ℕ → ℕ) (ts : List Trade) → map bare (fills left ts) ≡ bare_fills ts
bare_of_fills left [] = refl
bare_of_fills left (t ∷ ts) = ap (λ (es : List Event). bare_fills (t ∷ []) ++ es) (bare_of_fills left ts)

pub bare_interrupted : (r : Ranges) (price : Option ℕ) → map bare (interrupted_events r price) ≡ interrupted_events r price
bare_interrupted r None = refl
bare_interrupted r (Some price) = refl

pub bare_killed : (n : ℕ) (o : Order) → map bare (killed_events n o) ≡ killed_events n o
bare_killed zero o = refl
bare_killed (suc n) o = refl

pub killed-stops : (n : ℕ) (o : Order) → stops_told (killed_events n o) ≡ []
killed-stops zero o = refl
killed-stops (suc n) o = refl

pub killed-price : (n : ℕ) (o : Order) → price_told (killed_events n o) ≡ None
killed-price zero o = refl
killed-price (suc n) o = refl

-- entries that leave tell no stop and no price, and have no fill
module _ (gone : Entry → Event) (bare_too : (e : Entry) → bare (gone e) ≡ gone e) where
  bare_each : {X : Type 0} (f : X → Entry) (xs : List X) → map bare (map (λ x. gone (f x)) xs) ≡ map (λ x. gone (f x)) xs
  bare_each f [] = refl
  bare_each f (x ∷ xs) = ap₂ (λ (e : Event) (es : List Event). e ∷ es) (bare_too (f x)) (bare_each f xs)

  pub bare_leaving : (orders : List Order) (stops : List Stop) → map bare (leave_events gone orders stops) ≡ leave_events gone orders stops
  bare_leaving orders stops =
      map-append bare (map (λ o. gone (entry.Order o)) orders) (map (λ stop. gone (entry.Stop stop)) stops)
      ∙ ap₂ (λ (es fs : List Event). es ++ fs) (bare_each (λ (o : Order). entry.Order o) orders) (bare_each (λ (stop : Stop). entry.Stop stop) stops)

module _ (gone : Entry → Event) (none : (e : Entry) (es : List Event) → stops_told (gone e ∷ es) ≡ stops_told es) where
  none_there : {X : Type 0} (f : X → Entry) (xs : List X) (es : List Event) → stops_told (map (λ x. gone (f x)) xs ++ es) ≡ stops_told es
  none_there f [] es = refl
  none_there f (x ∷ xs) es = none (f x) (map (λ x. gone (f x)) xs ++ es) ∙ none_there f xs es

  pub leaving-stops : (orders : List Order) (stops : List Stop) (es : List Event) → stops_told (leave_events gone orders stops ++ es) ≡ stops_told es
  leaving-stops orders stops es =
      ap stops_told (append_assoc (map (λ o. gone (entry.Order o)) orders) (map (λ stop. gone (entry.Stop stop)) stops) es)
      ∙ none_there (λ (o : Order). entry.Order o) orders (map (λ stop. gone (entry.Stop stop)) stops ++ es)
      ∙ none_there (λ (stop : Stop). entry.Stop stop) stops es

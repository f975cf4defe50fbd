-- Entries and changes, told by what is seen after them.
use Rattle.std.proofs.Common.{◌≡◌, ℕ, ◌+◌, ◌-◌, Bool, true, false, ◌&&◌, not, if◌then◌else◌, List, [], ◌∷◌, ◌++◌, All, filter, map, Option, Some, None, refl, sym, ap, ap₂, ◌∙◌}
use Rattle.std.proofs.lemmas.List.{map-append}
use Rattle.std.proofs.lemmas.List.Elements.{All-filter, All-head, All-tail, filter-append}
use Rattle.xm_events.specs.Life.{bare}
use Rattle.xm_events.specs.Seen.{latest}
use Rattle.xm_events.specs.Story.{change_events, come_events, come_under_events, entry_events, interruption, killed_events, sweep_events}
use Rattle.xm_events.specs.SeenStory.{Outcome, arrival_under, own_arrival, seen_change, seen_entry}
use Rattle.xm_events.specs.declared.events.Deletion.TheVariants.{FillOrKill}
use Rattle.xm_events.specs.declared.events.Entry.TheVariants as entry
use Rattle.xm_events.specs.declared.events.Event.{Event}
use Rattle.xm_events.specs.declared.events.Event.TheVariants.{Accepted, Changed, Deleted}
use Rattle.xm_rules.specs.Orders.{is_stop_named}
use Rattle.xm_rules.specs.Refusals.{is_trigger_reached}
use Rattle.xm_rules.specs.Settling.{come, is_continuous, is_free, is_reached, reached, sweep_of, swept}
use Rattle.xm_rules.specs.State.{State, ref1}
use Rattle.xm_rules.specs.Step.{cancelled, changed, changed_order, come_under, entered, keeps_priority, reduced, replaced, stop_of}
use Rattle.xm_rules.specs.Sums.{total_quantity}
use Rattle.xm_rules.specs.Sweep.{is_fillable, rest_after}
use Rattle.xm_rules.specs.declared.commands.Condition.{Condition}
use Rattle.xm_rules.specs.declared.commands.Condition.TheVariants.{Plain, Ioc, Fok, Boc}
use Rattle.xm_rules.specs.declared.orders.Order.{Order}
use Rattle.xm_rules.specs.declared.orders.Stop.{Stop}
use Rattle.xm_rules.specs.declared.orders.Trade.{Trade}
use Rattle.xm_rules.specs.declared.phases.Phase.{Phase}
use Rattle.xm_rules.proofs.ReachedStops.{NoneReached}
use Rattle.xm_rules.proofs.Sweeps.{traded_is_filled}
use Rattle.xm_events.proofs.InEvents.{bare_killed, killed-price, price-append, price_told, sweeping-price}
use Rattle.xm_events.proofs.Numbers.{come_joins, come_sweeps, swept_so}
use Rattle.xm_events.proofs.Settled.{joining_tells, sweeping_told}
use Rattle.xm_events.proofs.SeenParts.{Fits, IsQuiet, IsSeenSo, last_same, none_arrives, quietly, sweep_counts, sweep_told, sweep_trades_are, sweep_seen, seen_as}

-- ---- stops that aren't reached

pub none_of : {X : Type 0} (p : X → Bool) (xs : List X) → All (λ (x : X). p x ≡ false) xs → filter p xs ≡ []
none_of p [] none = refl
none_of {X} p (x ∷ xs) none =
    (λ k. if All-head (λ (x : X). p x ≡ false) x xs none k then x ∷ filter p xs else filter p xs) ∙ none_of p xs (All-tail (λ (x : X). p x ≡ false) x xs none)

-- of fewer stops none is reached either
pub none_of_fewer : (s : State) (stays : Stop → Bool) → NoneReached s → filter (is_reached (ref1 s)) (filter stays s.stops) ≡ []
none_of_fewer s stays none =
    none_of (is_reached (ref1 s)) (filter stays s.stops) (All-filter stays (λ (stop : Stop). is_reached (ref1 s) stop ≡ false) s.stops none)

none_of_one : (s : State) (stop : Stop) → NoneReached s → is_reached (ref1 s) stop ≡ false → filter (is_reached (ref1 s)) (s.stops ++ stop ∷ []) ≡ []
none_of_one s stop none off =
    filter-append (is_reached (ref1 s)) s.stops (stop ∷ [])
    ∙ ap₂ (λ (xs ys : List Stop). xs ++ ys) (none_of (is_reached (ref1 s)) s.stops none) (λ k. if off k then stop ∷ [] else [])

-- ---- an order comes in, behind an event that tells it

-- an event that has no fill and no price
pub record IsPlain (e : Event) : Type 0 where
  pub bare_so : bare e ≡ e
  pub no_price : (es : List Event) → price_told (e ∷ es) ≡ price_told es

module _ (s : State) (os : List Order) (stops : List Stop) (o : Order) (e : Event) (plain : IsPlain e) (none : filter (is_reached (ref1 s)) stops ≡ []) where
  abbrev found : State
  found = record s { orders = os; stops = stops }

  coming_if : (outcome : Outcome) (trades : List Trade) (phase : Phase) → Fits s (come found o) (e ∷ come_events found o) outcome trades phase
      → (b : Bool) → (is_continuous s.phase && is_free o.restriction) ≡ b
      → IsSeenSo s (come found o) (e ∷ come_events found o) (e ∷ own_arrival outcome s.sweeps (ref1 s) trades) outcome trades
  coming_if outcome trades phase fits true on =
      let a = come found o in
      let swept = come_sweeps found o on in
      let told = sweeping_told found o on in
      let price = plain.no_price (come_events found o) ∙ ap price_told told ∙ sweeping-price found o in
      sweep_seen s os stops o a (e ∷ come_events found o) swept price outcome trades phase fits (e ∷ own_arrival outcome s.sweeps (ref1 s) trades)
      (ap₂ (λ (x : Event) (xs : List Event). x ∷ xs) plain.bare_so
      (ap (map bare) told ∙ sweep_told s os stops o a (e ∷ come_events found o) swept price outcome trades phase fits))
  coming_if outcome trades phase fits false off =
      let a = come found o in
      let joins = come_joins found o off in
      let quiet : IsQuiet s a =
      record {
        trades = ap (λ (x : State). x.trades) joins;
        sweeps = ap (λ (x : State). x.sweeps) joins;
        none = ap reached joins ∙ none;
      } in
      quietly s a (e ∷ come_events found o) outcome trades phase fits quiet (e ∷ own_arrival outcome s.sweeps (ref1 s) trades)
      (ap₂ (λ (x : Event) (xs : List Event). x ∷ xs) plain.bare_so
      (ap (map bare) (joining_tells found o off) ∙ sym (none_arrives s a (e ∷ come_events found o) outcome trades phase fits quiet)))

  pub coming_seen : (outcome : Outcome) (trades : List Trade) (phase : Phase) → Fits s (come found o) (e ∷ come_events found o) outcome trades phase
      → IsSeenSo s (come found o) (e ∷ come_events found o) (e ∷ own_arrival outcome s.sweeps (ref1 s) trades) outcome trades
  coming_seen outcome trades phase fits = coming_if outcome trades phase fits (is_continuous s.phase && is_free o.restriction) refl

-- ---- on a condition

module _ (s : State) (o : Order) (e : Event) (plain : IsPlain e) (none : NoneReached s) (outcome : Outcome) (trades : List Trade) (phase : Phase) where
  plainly : Fits s (come s o) (e ∷ come_events s o) outcome trades phase → IsSeenSo s (come s o) (e ∷ come_events s o) (e ∷ own_arrival outcome s.sweeps (ref1 s) trades) outcome trades
  plainly fits = coming_seen s s.orders s.stops o e plain (none_of (is_reached (ref1 s)) s.stops none) outcome trades phase fits

  -- what is left of an immediate order is what its trades leave
  immediately : Fits s (swept s o) (e ∷ come_under_events Ioc s o) outcome trades phase
      → IsSeenSo s (swept s o) (e ∷ come_under_events Ioc s o) (e ∷ arrival_under Ioc outcome s.sweeps (ref1 s) o trades) outcome trades
  immediately fits =
      let n = rest_after (sweep_of s o) in
      let es = e ∷ come_under_events Ioc s o in
      let here = swept_so s o in
      let price : price_told es ≡ interruption (sweep_of s o) =
      plain.no_price (come_under_events Ioc s o) ∙ price-append (sweep_events s o) (killed_events n o) ∙ ap (latest (price_told (sweep_events s o))) (killed-price n o) ∙ sweeping-price s o in
      let own = sweep_trades_are s s.orders s.stops o (swept s o) es here price outcome trades phase fits in
      let filled_so = ap total_quantity own ∙ traded_is_filled (s.sweeps + 1) (sweep_of s o) in
      sweep_seen s s.orders s.stops o (swept s o) es here price outcome trades phase fits (e ∷ arrival_under Ioc outcome s.sweeps (ref1 s) o trades)
      (ap₂ (λ (x : Event) (xs : List Event). x ∷ xs) plain.bare_so
      (map-append bare (sweep_events s o) (killed_events n o)
      ∙ ap₂ (λ (xs ys : List Event). xs ++ ys) (sweep_told s s.orders s.stops o (swept s o) es here price outcome trades phase fits)
      (bare_killed n o ∙ ap (λ (units : ℕ). killed_events (o.rest - units) o) (sym filled_so))))

  -- a fill-or-kill order that is filled takes a number
  wholly_if : (b : Bool) → (is_continuous s.phase && is_free o.restriction) ≡ true
      → Fits s (if b then come s o else s) (e ∷ (if b then come_events s o else Deleted (entry.Order o) FillOrKill ∷ [])) outcome trades phase
      → IsSeenSo s (if b then come s o else s) (e ∷ (if b then come_events s o else Deleted (entry.Order o) FillOrKill ∷ [])) (e ∷ arrival_under Fok outcome s.sweeps (ref1 s) o trades) outcome trades
  wholly_if true on fits =
      let a = come s o in
      let es = e ∷ come_events s o in
      let price = plain.no_price (come_events s o) ∙ ap price_told (sweeping_told s o on) ∙ sweeping-price s o in
      let counts = sweep_counts s s.orders s.stops o a es (come_sweeps s o on) price outcome trades phase fits in
      seen_as s a es (e ∷ own_arrival outcome s.sweeps (ref1 s) trades) (e ∷ arrival_under Fok outcome s.sweeps (ref1 s) o trades) outcome trades
      (sym (λ k. e ∷ (if counts k then Deleted (entry.Order o) FillOrKill ∷ [] else own_arrival outcome s.sweeps (ref1 s) trades))) (plainly fits)
  wholly_if false on fits =
      let es = e ∷ Deleted (entry.Order o) FillOrKill ∷ [] in
      let quiet : IsQuiet s s = record { trades = refl; sweeps = refl; none = none_of (is_reached (ref1 s)) s.stops none } in
      let same = last_same s s es outcome trades phase fits quiet in
      quietly s s es outcome trades phase fits quiet (e ∷ arrival_under Fok outcome s.sweeps (ref1 s) o trades)
      (ap (λ (x : Event). x ∷ Deleted (entry.Order o) FillOrKill ∷ []) plain.bare_so
      ∙ sym (λ k. e ∷ (if same k then Deleted (entry.Order o) FillOrKill ∷ [] else own_arrival outcome s.sweeps (ref1 s) trades)))

  pub condition_seen : (condition : Condition) → (condition ≡ Fok → (is_continuous s.phase && is_free o.restriction) ≡ true)
      → Fits s (come_under condition s o) (e ∷ come_under_events condition s o) outcome trades phase
      → IsSeenSo s (come_under condition s o) (e ∷ come_under_events condition s o) (e ∷ arrival_under condition outcome s.sweeps (ref1 s) o trades) outcome trades
  condition_seen Plain on fits = plainly fits
  condition_seen Ioc on fits = immediately fits
  condition_seen Fok on fits = wholly_if (is_fillable (sweep_of s o)) (on refl) fits
  condition_seen Boc on fits = plainly fits

-- ---- entries and changes

pub entering_seen : (s : State) (condition : Condition) (trigger : Option ℕ) (o : Order) (outcome : Outcome) (trades : List Trade) (phase : Phase) → NoneReached s
    → (condition ≡ Fok → (is_continuous s.phase && is_free o.restriction) ≡ true) → is_trigger_reached s o.side trigger ≡ false
    → Fits s (entered s condition trigger o) (entry_events s condition trigger o) outcome trades phase
    → IsSeenSo s (entered s condition trigger o) (entry_events s condition trigger o) (seen_entry outcome s.sweeps (ref1 s) condition trigger o trades) outcome trades
entering_seen s condition None o outcome trades phase none on off fits =
    condition_seen s o (Accepted (entry.Order o)) (record { bare_so = refl; no_price = λ es. refl }) none outcome trades phase condition on fits
entering_seen s condition (Some trigger) o outcome trades phase none on off fits =
    quietly s (entered s condition (Some trigger) o) (entry_events s condition (Some trigger) o) outcome trades phase fits
    (record { trades = refl; sweeps = refl; none = none_of_one s (stop_of trigger o) none off }) (entry_events s condition (Some trigger) o) refl

pub changing_seen : (s : State) (quantity : ℕ) (limit : Option ℕ) (found_order : Option Order) (outcome : Outcome) (trades : List Trade) (phase : Phase) → NoneReached s
    → Fits s (changed s quantity limit found_order) (change_events s quantity limit found_order) outcome trades phase
    → IsSeenSo s (changed s quantity limit found_order) (change_events s quantity limit found_order) (seen_change outcome s.sweeps (ref1 s) quantity limit found_order trades) outcome trades
changing_seen s quantity limit None outcome trades phase none fits =
    quietly s s [] outcome trades phase fits (record { trades = refl; sweeps = refl; none = none_of (is_reached (ref1 s)) s.stops none }) [] refl
changing_seen s quantity limit (Some o) outcome trades phase none its_fits = by (keeps_priority quantity limit o) its_fits where
  by : (b : Bool)
      → Fits s (if b then reduced s quantity o else replaced s o (changed_order quantity limit o))
      (if b then Changed (record o { rest = quantity }) ∷ [] else Changed (changed_order quantity limit o) ∷ come_events (cancelled s o.member o.reference) (changed_order quantity limit o)) outcome trades phase
      → IsSeenSo s (if b then reduced s quantity o else replaced s o (changed_order quantity limit o))
      (if b then Changed (record o { rest = quantity }) ∷ [] else Changed (changed_order quantity limit o) ∷ come_events (cancelled s o.member o.reference) (changed_order quantity limit o))
      (if b then Changed (record o { rest = quantity }) ∷ [] else Changed (changed_order quantity limit o) ∷ own_arrival outcome s.sweeps (ref1 s) trades) outcome trades
  by true fits =
      quietly s (reduced s quantity o) (Changed (record o { rest = quantity }) ∷ []) outcome trades phase fits
      (record { trades = refl; sweeps = refl; none = none_of (is_reached (ref1 s)) s.stops none }) (Changed (record o { rest = quantity }) ∷ []) refl
  by false fits =
      let t = cancelled s o.member o.reference in
      let again = changed_order quantity limit o in
      coming_seen s t.orders t.stops again (Changed again) (record { bare_so = refl; no_price = λ es. refl })
      (none_of_fewer s (λ (stop : Stop). not (is_stop_named o.member o.reference stop)) none) outcome trades phase fits

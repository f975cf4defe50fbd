-- No name of a lawful journal is given more than the greatest quantity.
use Rattle.std.proofs.Common.{◌≡◌, ℕ, ◌+◌, ◌*◌, ◌≤◌, ◌==◌, Bool, true, false, ◌&&◌, if◌then◌else◌, cond, All, List, [], ◌∷◌, sum_by, None, map, refl, sym, ap, ◌∙◌, arith, eqb-true}
use Rattle.std.specs.List.{list_any}
use Rattle.std.proofs.lemmas.Bool.{and_parts}
use Rattle.std.proofs.lemmas.List.Elements.{All-head, All-tail}
use Rattle.std.proofs.lemmas.List.Sums.{sum_by-cons}
use Rattle.xm_events.specs.Life.{bare, given, taken, units_named}
use Rattle.xm_events.specs.Seen.{seen_of}
use Rattle.xm_events.specs.SeenStory.{seen_story}
use Rattle.xm_events.specs.Story.{story}
use Rattle.xm_events.specs.declared.events.Event.{Event}
use Rattle.xm_events.specs.declared.events.Event.TheVariants.{Filled}
use Rattle.xm_rules.specs.Opening.{are_carriable, carried_over, is_still_valid, opening}
use Rattle.xm_rules.specs.Orders.{is_named, is_stop_named}
use Rattle.xm_rules.specs.Refusals.{refusal_of}
use Rattle.xm_rules.specs.State.{State}
use Rattle.xm_rules.specs.Step.{Journal, is_lawful, new_trades, replay, step}
use Rattle.xm_rules.specs.declared.commands.Command.{Command}
use Rattle.xm_rules.specs.declared.commands.Command.TheVariants.{Enter, Change, Cancel, CancelAll, StartOpening, StartIntraday, StartClosing, Uncross, EndDay}
use Rattle.xm_rules.specs.declared.orders.Order.{Order}
use Rattle.xm_rules.specs.declared.orders.Stop.{Stop}
use Rattle.xm_rules.specs.declared.settings.DeskSettings.{DeskSettings}
use Rattle.xm_ticks.specs.declared.numbers.TheConstants.{MAX_QUANTITY}
use Rattle.xm_rules.proofs.Accepted.{change-accepted, entry-accepted}
use Rattle.xm_rules.proofs.CarriedEntries.{CanBeCarried, CanBeHeld, carriable-parts, used_once}
use Rattle.xm_rules.proofs.OneName.{count-none, named, step-uses, stop_named, uses}
use Rattle.xm_rules.proofs.Opening.{opening-uses}
use Rattle.xm_rules.proofs.Ranges.{range_high}
use Rattle.xm_rules.proofs.Replays.{lawful-has}
use Rattle.xm_rules.proofs.SettledSums.{part}
use Rattle.xm_events.proofs.Conserved.{settling_conserves, story_conserves}
use Rattle.xm_events.proofs.NamedUnits.{order_units, stop_units}
use Rattle.xm_events.proofs.Retold.{bare_retold}
use Rattle.xm_events.proofs.TestedSums.{sum-uncounted}

one_if : (b : Bool) (n : ℕ) → n ≤ MAX_QUANTITY → (if b then n else 0) ≤ MAX_QUANTITY * cond b 1 0
one_if true n l = omega (arith, l)
one_if false n l = omega arith

module _ (member reference : ℕ) where
  orders_few : (members : ℕ) (os : List Order) → All (CanBeCarried members) os → sum_by (order_units member reference) os ≤ MAX_QUANTITY * sum_by (named member reference) os
  orders_few members [] h = omega arith
  orders_few members (o ∷ os) h =
      omega (
        arith,
        sum_by-cons (order_units member reference) o os,
        sum_by-cons (named member reference) o os,
        one_if (is_named member reference o) o.rest (range_high o.rest (All-head (CanBeCarried members) o os h).units),
        orders_few members os (All-tail (CanBeCarried members) o os h),
      )

  stops_few : (members : ℕ) (stops : List Stop) → All (CanBeHeld members) stops → sum_by (stop_units member reference) stops ≤ MAX_QUANTITY * sum_by (stop_named member reference) stops
  stops_few members [] h = omega arith
  stops_few members (stop ∷ stops) h =
      omega (
        arith,
        sum_by-cons (stop_units member reference) stop stops,
        sum_by-cons (stop_named member reference) stop stops,
        one_if (is_stop_named member reference stop) stop.quantity (range_high stop.quantity (All-head (CanBeHeld members) stop stops h).order.units),
        stops_few members stops (All-tail (CanBeHeld members) stop stops h),
      )

  -- a day opens with no more under a name than was carried under it
  opening_few : (settings : DeskSettings) → are_carriable settings ≡ true → units_named (opening settings) member reference ≤ MAX_QUANTITY
  unfolding opening
  opening_few settings h =
      let parts = carriable-parts settings h in
      let orders = settings.carried.orders in
      let stops = settings.carried.stops in
      omega (
        arith,
        settling_conserves member reference (carried_over settings) [],
        part (order_units member reference) (λ (o : Order). is_still_valid settings.today o.validity) orders,
        part (stop_units member reference) (λ (stop : Stop). is_still_valid settings.today stop.validity) stops,
        orders_few settings.members orders parts.orders,
        stops_few settings.members stops parts.stops,
        used_once member reference settings h,
      )

  -- a new name has no units
  unused : (s : State) (m r : ℕ) → ((m == member) && (r == reference)) ≡ true → list_any (is_named m r) s.orders ≡ false → list_any (is_stop_named m r) s.stops ≡ false
      → units_named s member reference ≡ 0
  unused s m r same no_order no_stop =
      let both = and_parts (m == member) (r == reference) same in
      let p = eqb-true m member both.0 in
      let q = eqb-true r reference both.1 in
      let none = sum-uncounted (is_named m r) (λ (o : Order). o.rest) s.orders (count-none (is_named m r) s.orders no_order) in
      let none_held = sum-uncounted (is_stop_named m r) (λ (stop : Stop). stop.quantity) s.stops (count-none (is_stop_named m r) s.stops no_stop) in
      (λ k. units_named s (sym p k) (sym q k)) ∙ omega (arith, none, none_held)

  entered_if : (b : Bool) (quantity before : ℕ) → quantity ≤ MAX_QUANTITY → before ≤ MAX_QUANTITY → (b ≡ true → before ≡ 0) → (if b then quantity else 0) + before ≤ MAX_QUANTITY
  entered_if true quantity before l m none = let n = none refl in omega (arith, n, l)
  entered_if false quantity before l m none = omega (arith, m)

  changed_if : (b : Bool) (quantity before : ℕ) → quantity ≤ MAX_QUANTITY → before ≤ MAX_QUANTITY → (if b then quantity else before) ≤ MAX_QUANTITY
  changed_if true quantity before l m = l
  changed_if false quantity before l m = m

  given_few_in : (s : State) (c : Command) → refusal_of s c ≡ None → units_named s member reference ≤ MAX_QUANTITY → given s c member reference ≤ MAX_QUANTITY
  given_few_in s (Enter m r side kind quantity validity restriction condition) h l =
      let passes = entry-accepted s m r side kind quantity validity restriction condition h in
      entered_if ((m == member) && (r == reference)) quantity (units_named s member reference) (range_high quantity passes.quantity) l
      (λ same. unused s m r same passes.no_order passes.no_stop)
  given_few_in s (Change m r quantity limit) h l =
      changed_if ((m == member) && (r == reference)) quantity (units_named s member reference) (range_high quantity (change-accepted s m r quantity limit h).quantity) l
  given_few_in s (Cancel m r) h l = l
  given_few_in s (CancelAll m) h l = l
  given_few_in s StartOpening h l = l
  given_few_in s StartIntraday h l = l
  given_few_in s StartClosing h l = l
  given_few_in s Uncross h l = l
  given_few_in s EndDay h l = l

  abbrev AreFew : State → Type 0
  AreFew s = (units_named s member reference ≤ MAX_QUANTITY) × (uses member reference s ≤ 1)

  few_step : (s : State) (c : Command) → refusal_of s c ≡ None → AreFew s → AreFew (step s c)
  few_step s c h few =
      (omega (arith, story_conserves member reference s c h few.1, given_few_in s c h few.0), step-uses member reference s c h few.1)

  few : (j : Journal) → is_lawful j ≡ true → AreFew (replay j)
  few j lawful = lawful-has AreFew few_step j lawful (λ carriable. (opening_few j.settings carriable, opening-uses j.settings member reference carriable))

  pub given_few : (j : Journal) (c : Command) → is_lawful j ≡ true → refusal_of (replay j) c ≡ None → given (replay j) c member reference ≤ MAX_QUANTITY
  given_few j c lawful h = given_few_in (replay j) c h (few j lawful).0

  bare_takes : (es : List Event) → sum_by (taken member reference) (map bare es) ≡ sum_by (taken member reference) es
  bare_takes [] = refl
  bare_takes (e ∷ es) =
      omega (
        arith,
        sum_by-cons (taken member reference) (bare e) (map bare es),
        sum_by-cons (taken member reference) e es,
        same_taken e,
        bare_takes es,
      )
    where
      same_taken : (e : Event) → taken member reference (bare e) ≡ taken member reference e
      same_taken (Filled f) = refl
      same_taken _ = refl

  pub seen_few : (j : Journal) (c : Command) → is_lawful j ≡ true → refusal_of (replay j) c ≡ None
      → (let s = replay j in let t = step s c in
      sum_by (taken member reference) (seen_story s c (seen_of s c) (new_trades s t) t) + units_named t member reference ≤ MAX_QUANTITY)
  seen_few j c lawful h =
      let s = replay j in
      omega (
        arith,
        ap (sum_by (taken member reference)) (bare_retold j c lawful h),
        bare_takes (story s c),
        story_conserves member reference s c h (few j lawful).1,
        given_few j c lawful h,
      )

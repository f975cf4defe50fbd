-- Nothing is lost: what an order, or a stop, has to begin with is what the events take of it, and what is left.
use Rattle.std.proofs.Common.{◌≡◌, ℕ, ◌+◌, ◌≤◌, ◌==◌, zero, suc, Bool, true, false, not, ◌&&◌, ◌||◌, if◌then◌else◌, List, [], ◌∷◌, ◌++◌, filter, find, length, sum_by, Option, Some, None, refl, sym, ap, ◌∙◌, arith}
use Rattle.std.proofs.lemmas.Bool.{eqb-true, and_parts}
use Rattle.std.proofs.lemmas.List.Sums.{sum_by-append, sum_by-cons, sum_by_push}
use Rattle.xm_events.specs.Life.{given, taken, units_named, entry_units}
use Rattle.xm_events.specs.Story.{act_events, change_events, come_events, come_under_events, determined_events, entry_events, fills, interrupted_events, interruption, killed_events, leave_events, left_by_sweep, range_left_at, rest_in, settle_events, settle_in_events, story, sweep_events, pending_events, uncross_events, uncross_at_events}
use Rattle.xm_events.specs.declared.events.Deletion.TheVariants.{ImmediateOrCancel, FillOrKill, EndOfDay}
use Rattle.xm_events.specs.declared.events.Entry.{Entry}
use Rattle.xm_events.specs.declared.events.Entry.TheVariants as entry
use Rattle.xm_events.specs.declared.events.Event.{Event}
use Rattle.xm_events.specs.declared.events.Event.TheVariants.{Accepted, Changed, Triggered, Cancelled, Deleted, Interrupted, Began}
use Rattle.xm_rules.specs.Allotment.{Uncrossing, auction_trades, orders_after_call}
use Rattle.xm_rules.specs.Auction.{auction_price}
use Rattle.xm_rules.specs.Commands.{outlasts, trigger_of}
use Rattle.xm_rules.specs.Orders.{is_named, is_stop_named}
use Rattle.xm_rules.specs.Refusals.{has_order, has_stop, refusal_of}
use Rattle.xm_rules.specs.Settling.{come, is_continuous, is_free, is_reached, joined, order_of_stop, reached, released, settle, settle_in, sweep_of, swept, take_pending}
use Rattle.xm_rules.specs.State.{Ranges, State, ranges, ref1}
use Rattle.xm_rules.specs.Step.{act, cancelled, changed, changed_order, come_under, determined, entered, entered_order, keeps_priority, next_phase, reduced, replaced, stage_after, step, stop_of, uncrossed, uncrossed_at}
use Rattle.xm_rules.specs.Sweep.{filled, is_fillable, rest_after, sweep_trades}
use Rattle.xm_rules.specs.declared.commands.Command.{Command}
use Rattle.xm_rules.specs.declared.commands.Command.TheVariants.{Enter, Change, Cancel, CancelAll, StartOpening, StartIntraday, StartClosing, Uncross, EndDay}
use Rattle.xm_rules.specs.declared.commands.Condition.{Condition}
use Rattle.xm_rules.specs.declared.commands.Condition.TheVariants.{Plain, Ioc, Fok, Boc}
use Rattle.xm_rules.specs.declared.orders.Order.{Order}
use Rattle.xm_rules.specs.declared.orders.Side.TheVariants.{Buy, Sell}
use Rattle.xm_rules.specs.declared.orders.Stop.{Stop}
use Rattle.xm_rules.specs.declared.phases.Auction.{Auction}
use Rattle.xm_rules.specs.declared.phases.CallStage.{CallStage}
use Rattle.xm_rules.specs.declared.phases.Phase.{Phase}
use Rattle.xm_rules.specs.declared.phases.Phase.TheVariants.{Call, Ended}
use Rattle.xm_rules.proofs.Accepted.{change-accepted}
use Rattle.xm_rules.proofs.Allotments.{within_side}
use Rattle.xm_rules.proofs.CallTrades.{call_of}
use Rattle.xm_rules.proofs.OneName.{uses}
use Rattle.xm_rules.proofs.Prices.{volume_at_price}
use Rattle.xm_rules.proofs.ReachedStops.{as_many, come-stops}
use Rattle.xm_rules.proofs.SettledSums.{split}
use Rattle.xm_rules.proofs.Sweeps.{filled_within}
use Rattle.xm_events.proofs.CallUnits.{call_conserves}
use Rattle.xm_events.proofs.Changes.{StandsAlone, cancelled_units, reduced_units}
use Rattle.xm_events.proofs.Names.{find-counts, find-none, find-passes}
use Rattle.xm_events.proofs.NamedUnits.{fills_take, leaving_takes, order_units, stop_units}
use Rattle.xm_events.proofs.SweptUnits.{sweep_conserves}
use Rattle.xm_events.proofs.TestedSums.{parts_if, zero_if}

module _ (member reference : ℕ) where
  -- what events take of the name
  abbrev takes : List Event → ℕ
  takes es = sum_by (taken member reference) es

  -- what a state has under the name
  abbrev pub held : State → ℕ
  held s = units_named s member reference

  -- what pending stops have
  abbrev pub waiting : List Stop → ℕ
  waiting stops = sum_by (stop_units member reference) stops

  abbrev units : Order → ℕ
  units o = order_units member reference o

  -- ---- an order that comes in

  -- an interruption takes nothing
  pub interruption_takes : (r : Ranges) (price : Option ℕ) → takes (interrupted_events r price) ≡ 0
  interruption_takes r None = refl
  interruption_takes r (Some price) = refl

  -- a sweep takes what it fills
  sweeping_conserves : (s : State) (o : Order) → takes (sweep_events s o) + held (swept s o) ≡ held s + (if is_named member reference o then filled (sweep_of s o) else 0)
  sweeping_conserves s o =
      let w = sweep_of s o in
      let ts = sweep_trades (s.sweeps + 1) w in
      omega (
        arith,
        sum_by-append (taken member reference) (fills (left_by_sweep w) ts) (interrupted_events (ranges s) (interruption w)),
        fills_take member reference (left_by_sweep w) ts,
        interruption_takes (ranges s) (interruption w),
        sweep_conserves member reference w (s.sweeps + 1),
      )

  -- what it trades and what is left of it are its units
  whole : (s : State) (o : Order) → let w = sweep_of s o in
      (if is_named member reference o then filled w else 0) + (if is_named member reference o then rest_after w else 0) ≡ units o
  whole s o = let w = sweep_of s o in parts_if (is_named member reference o) (filled w) (rest_after w) o.rest (let l = filled_within w in omega arith)

  -- an order that comes in brings its units
  pub coming_conserves : (s : State) (o : Order) → takes (come_events s o) + held (come s o) ≡ held s + units o
  coming_conserves s o = come_if (is_continuous s.phase && is_free o.restriction) where
    rest_if : (b : Bool) → (rest_after (sweep_of s o) == 0) ≡ b → takes (sweep_events s o) + held (if b then swept s o else joined (swept s o) (record o { rest = rest_after (sweep_of s o) })) ≡ held s + units o
    rest_if true e =
        let none = zero_if (is_named member reference o) (rest_after (sweep_of s o)) (eqb-true (rest_after (sweep_of s o)) 0 e) in
        omega (arith, sweeping_conserves s o, whole s o, none)
    rest_if false e =
        let left : Order = record o { rest = rest_after (sweep_of s o) } in
        omega (arith, sweeping_conserves s o, whole s o, sum_by_push (order_units member reference) (swept s o).orders left)

    come_if : (b : Bool)
        → takes (if b then sweep_events s o else []) + held (if b then (if rest_after (sweep_of s o) == 0 then swept s o else joined (swept s o) (record o { rest = rest_after (sweep_of s o) })) else joined s o) ≡ held s + units o
    come_if true = rest_if (rest_after (sweep_of s o) == 0) refl
    come_if false = omega (arith, sum_by_push (order_units member reference) s.orders o)

  -- the rest of an immediate order is taken
  pub killed_takes : (n : ℕ) (o : Order) → takes (killed_events n o) ≡ (if is_named member reference o then n else 0)
  killed_takes zero o = sym (zero_if (is_named member reference o) 0 refl)
  killed_takes (suc n) o = sum_by-cons (taken member reference) (Deleted (entry.Order (record o { rest = suc n })) ImmediateOrCancel) [] ∙ omega arith

  -- an order brings its units on any condition
  pub condition_conserves : (condition : Condition) (s : State) (o : Order) → takes (come_under_events condition s o) + held (come_under condition s o) ≡ held s + units o
  condition_conserves Plain s o = coming_conserves s o
  condition_conserves Ioc s o =
      let n = rest_after (sweep_of s o) in
      omega (arith, sum_by-append (taken member reference) (sweep_events s o) (killed_events n o), sweeping_conserves s o, killed_takes n o, whole s o)
  condition_conserves Fok s o = fillable_if (is_fillable (sweep_of s o)) where
    fillable_if : (b : Bool) → takes (if b then come_events s o else Deleted (entry.Order o) FillOrKill ∷ []) + held (if b then come s o else s) ≡ held s + units o
    fillable_if true = coming_conserves s o
    fillable_if false = omega (arith, sum_by-cons (taken member reference) (Deleted (entry.Order o) FillOrKill) [])
  condition_conserves Boc s o = coming_conserves s o

  -- ---- settling

  -- the stops that are released wait
  released_keeps : (s : State) → held (released s) + waiting (reached s) ≡ held s
  released_keeps s = omega (arith, split (stop_units member reference) (is_reached (ref1 s)) s.stops)

  -- the first pending stop comes in with its units
  taking_conserves : (more : State → List Stop → State) (telling : State → List Stop → List Event) (turns : ℕ)
      → ((s : State) (pending : List Stop) → length s.stops + length pending ≤ turns → takes (telling s pending) + held (more s pending) ≡ held s + waiting pending)
      → (s : State) (pending : List Stop) → length s.stops + length pending ≤ suc turns
      → takes (pending_events telling s pending) + held (take_pending more s pending) ≡ held s + waiting pending
  taking_conserves more telling turns each s [] few = omega arith
  taking_conserves more telling turns each s (stop ∷ stops) few =
      let o = order_of_stop stop in
      omega (
        arith,
        sum_by-cons (taken member reference) (Triggered stop) (come_events s o ++ telling (come s o) stops),
        sum_by-append (taken member reference) (come_events s o) (telling (come s o) stops),
        coming_conserves s o,
        each (come s o) stops (let kept = ap (λ (ss : List Stop). length ss) (come-stops s o) in omega (arith, few)),
        sum_by-cons (stop_units member reference) stop stops,
      )

  none_waits : (s : State) (pending : List Stop) → length s.stops + length pending ≤ 0 → takes [] + held s ≡ held s + waiting pending
  none_waits s [] few = omega arith
  none_waits s (stop ∷ stops) few = absurd (omega arith)

  -- with turns for all stops, those that wait come in with their units
  pub settled_conserves : (turns : ℕ) (s : State) (pending : List Stop) → length s.stops + length pending ≤ turns
      → takes (settle_in_events turns s pending) + held (settle_in turns s pending) ≡ held s + waiting pending
  settled_conserves zero s pending few = none_waits s pending few
  settled_conserves (suc turns) s pending few =
      omega (
        arith,
        taking_conserves (settle_in turns) (settle_in_events turns) turns (settled_conserves turns) (released s) (pending ++ reached s) (omega (arith, few, as_many s pending)),
        sum_by-append (stop_units member reference) pending (reached s),
        released_keeps s,
      )

  pub settling_conserves : (s : State) (pending : List Stop) → takes (settle_events s pending) + held (settle s pending) ≡ held s + waiting pending
  settling_conserves s pending = settled_conserves (length s.stops + length pending) s pending (omega arith)

  -- ---- commands

  -- an entry brings its units
  entering_conserves : (s : State) (condition : Condition) (trigger : Option ℕ) (o : Order) → takes (entry_events s condition trigger o) + held (entered s condition trigger o) ≡ units o + held s
  entering_conserves s condition None o =
      omega (arith, sum_by-cons (taken member reference) (Accepted (entry.Order o)) (come_under_events condition s o), condition_conserves condition s o)
  entering_conserves s condition (Some trigger) o =
      omega (arith, sum_by-cons (taken member reference) (Accepted (entry.Stop (stop_of trigger o))) [], sum_by_push (stop_units member reference) s.stops (stop_of trigger o))

  -- an order that is changed has the units that the change gives it
  found_conserves : (s : State) (q : ℕ) (limit : Option ℕ) (o : Order) → (is_named member reference o ≡ true → StandsAlone member reference s)
      → takes (change_events s q limit (Some o)) + held (changed s q limit (Some o)) ≡ (if is_named member reference o then q else held s)
  found_conserves s q limit o alone = by (keeps_priority q limit o) where
    by : (b : Bool) → takes (if b then Changed (record o { rest = q }) ∷ [] else Changed (changed_order q limit o) ∷ come_events (cancelled s o.member o.reference) (changed_order q limit o))
        + held (if b then reduced s q o else replaced s o (changed_order q limit o)) ≡ (if is_named member reference o then q else held s)
    by true = omega (arith, sum_by-cons (taken member reference) (Changed (record o { rest = q })) [], reduced_units member reference s q o alone)
    by false =
        let without = cancelled s o.member o.reference in
        let again = changed_order q limit o in
        omega (arith, sum_by-cons (taken member reference) (Changed again) (come_events without again), coming_conserves without again, cancelled_units member reference s q o)

  -- where an order of the name is found, it is the only one, and there is no such stop
  alone_if : (s : State) (m r : ℕ) (o : Order) → m ≡ member → r ≡ reference → find (is_named m r) s.orders ≡ Some o → has_stop s m r ≡ false → uses member reference s ≤ 1 → StandsAlone member reference s
  alone_if s m r o e f found no_stop l =
      let here : find (is_named member reference) s.orders ≡ Some o = (λ k. find (is_named (sym e k) (sym f k)) s.orders) ∙ found in
      let some = find-counts (is_named member reference) s.orders o here in
      record { one = omega (arith, l, some); no_stop = (λ k. has_stop s (sym e k) (sym f k)) ∙ no_stop }

  -- so a change of a name gives the name those units
  changing_conserves : (s : State) (m r q : ℕ) (limit : Option ℕ) (found : Option Order) → find (is_named m r) s.orders ≡ found → has_order s m r ≡ true → has_stop s m r ≡ false
      → uses member reference s ≤ 1 → takes (change_events s q limit found) + held (changed s q limit found) ≡ (if (m == member) && (r == reference) then q else held s)
  changing_conserves s m r q limit None e some no_stop l = absurd (let none = find-none (is_named m r) s.orders e in cc)
  changing_conserves s m r q limit (Some o) e some no_stop l =
      let own = and_parts (o.member == m) (o.reference == r) (find-passes (is_named m r) s.orders o e) in
      let same_member = eqb-true o.member m own.0 in
      let same_reference = eqb-true o.reference r own.1 in
      found_conserves s q limit o
      (λ h. let its = and_parts (o.member == member) (o.reference == reference) h in
      alone_if s m r o (sym same_member ∙ eqb-true o.member member its.0) (sym same_reference ∙ eqb-true o.reference reference its.1) e no_stop l)
      ∙ (λ k. if (same_member k == member) && (same_reference k == reference) then q else held s)

  -- what is deleted takes its units with it
  cancelling_conserves : (s : State) (gone : Entry → Event) (p : Order → Bool) (q : Stop → Bool) → ((e : Entry) → taken member reference (gone e) ≡ entry_units member reference e)
      → takes (leave_events gone (filter p s.orders) (filter q s.stops)) + held (record s { orders = filter (λ (o : Order). not (p o)) s.orders; stops = filter (λ (stop : Stop). not (q stop)) s.stops }) ≡ held s
  cancelling_conserves s gone p q each =
      omega (
        arith,
        leaving_takes member reference gone (filter p s.orders) (filter q s.stops) each,
        split (order_units member reference) p s.orders,
        split (stop_units member reference) q s.stops,
      )

  -- a call takes what it allots
  determining_conserves : (s : State) (u : Uncrossing) (next : Option CallStage) → u.orders ≡ s.orders → auction_price (Call u.auction u.stage) u.orders (ref1 s) ≡ Some (u.price, u.volume)
      → takes (determined_events s u next) + held (determined s u next) ≡ held s
  determining_conserves s u None same e =
      let at = volume_at_price (Call u.auction u.stage) u.orders (ref1 s) u.price u.volume e in
      let ts = auction_trades (s.sweeps + 1) u in
      let left = rest_in (orders_after_call u) in
      omega (
        arith,
        sum_by-append (taken member reference) (fills left ts) (Began (next_phase u.auction) ∷ []),
        sum_by-cons (taken member reference) (Began (next_phase u.auction)) [],
        fills_take member reference left ts,
        call_conserves member reference u (within_side u Buy at) (within_side u Sell at) (s.sweeps + 1),
        ap (sum_by (order_units member reference)) same,
      )
  determining_conserves s u (Some stage) same e =
      omega (arith, sum_by-cons (taken member reference) (Interrupted u.price (range_left_at u.stage (ranges s) u.price)) (Began (Call u.auction stage) ∷ []), sum_by-cons (taken member reference) (Began (Call u.auction stage)) [])

  priced_conserves : (s : State) (auction : Auction) (stage : CallStage) (priced : Option (ℕ × ℕ)) → auction_price (Call auction stage) s.orders (ref1 s) ≡ priced
      → takes (uncross_at_events s auction stage priced) + held (uncrossed_at s auction stage priced) ≡ held s
  priced_conserves s auction stage None e = omega arith
  priced_conserves s auction stage (Some priced) e = determining_conserves s (call_of s auction stage priced) (stage_after (ranges s) stage priced.0) refl e

  uncrossing_conserves : (s : State) (phase : Phase) → takes (uncross_events s phase) + held (uncrossed s phase) ≡ held s
  uncrossing_conserves s (Call auction stage) = priced_conserves s auction stage (auction_price (Call auction stage) s.orders (ref1 s)) refl
  uncrossing_conserves s _ = omega arith

  acting_conserves : (s : State) (c : Command) → refusal_of s c ≡ None → uses member reference s ≤ 1 → takes (act_events s c) + held (act s c) ≡ given s c member reference
  acting_conserves s (Enter m r side kind quantity validity restriction condition) accepted l =
      entering_conserves s condition (trigger_of kind) (entered_order m r side kind quantity validity restriction)
  acting_conserves s (Change m r quantity limit) accepted l =
      let passes = change-accepted s m r quantity limit accepted in
      changing_conserves s m r quantity limit (find (is_named m r) s.orders) refl (first_of_two (has_order s m r) (has_stop s m r) passes.known passes.no_stop) passes.no_stop l
    where
      first_of_two : (a b : Bool) → (a || b) ≡ true → b ≡ false → a ≡ true
      first_of_two true b h e = refl
      first_of_two false b h e = absurd (cc)
  acting_conserves s (Cancel m r) accepted l = cancelling_conserves s Cancelled (is_named m r) (is_stop_named m r) (λ e. refl)
  acting_conserves s (CancelAll m) accepted l = cancelling_conserves s Cancelled (λ (o : Order). o.member == m) (λ (stop : Stop). stop.member == m) (λ e. refl)
  acting_conserves s Uncross accepted l = uncrossing_conserves s s.phase
  acting_conserves s EndDay accepted l =
      let today = s.settings.today in
      let gone = λ (e : Entry). Deleted e EndOfDay in
      let stays = λ (o : Order). outlasts today o.validity in
      let stop_stays = λ (stop : Stop). outlasts today stop.validity in
      let orders = filter (λ (o : Order). not (stays o)) s.orders in
      let stops = filter (λ (stop : Stop). not (stop_stays stop)) s.stops in
      omega (
        arith,
        sum_by-append (taken member reference) (leave_events gone orders stops) (Began Ended ∷ []),
        sum_by-cons (taken member reference) (Began Ended) [],
        leaving_takes member reference gone orders stops (λ e. refl),
        split (order_units member reference) stays s.orders,
        split (stop_units member reference) stop_stays s.stops,
      )
  acting_conserves s StartOpening accepted l = omega arith
  acting_conserves s StartIntraday accepted l = omega arith
  acting_conserves s StartClosing accepted l = omega arith

  -- what a command gives a name is taken or left
  pub story_conserves : (s : State) (c : Command) → refusal_of s c ≡ None → uses member reference s ≤ 1 → takes (story s c) + held (step s c) ≡ given s c member reference
  unfolding step story
  story_conserves s c accepted l =
      omega (arith, sum_by-append (taken member reference) (act_events s c) (settle_events (act s c) []), acting_conserves s c accepted l, settling_conserves (act s c) [])

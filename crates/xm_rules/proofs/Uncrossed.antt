-- In continuous trading no two orders of a replay meet: what comes in leaves none that do, nor does a call, and else orders only go.
use Rattle.std.proofs.Common.{◌≡◌, ◌∙◌, ℕ, suc, ◌+◌, ◌-◌, ◌≤◌, ◌==◌, Bool, true, false, ◌&&◌, not, if◌then◌else◌, List, [], ◌∷◌, filter, map, find, All, Contains, Option, Some, None, refl, sym, subst, arith}
use Rattle.std.specs.Prelude.{nat_lt}
use Rattle.std.proofs.lemmas.Bool.{eqb-false, ltb-true}
use Rattle.std.proofs.lemmas.Bool.Decides.{nat_tests}
use Rattle.std.proofs.lemmas.List.Elements.{All-nil, All-cons, All-contains, All-filter, All-map, All-push, All-weaker, filter_passes}
use Rattle.xm_rules.specs.Active.{Positioned, active, is_active_on, positioned_from}
use Rattle.xm_rules.specs.Auction.{auction_price}
use Rattle.xm_rules.specs.Commands.{is_in_range, outlasts, trigger_of}
use Rattle.xm_rules.specs.Crossing.{NoneMeet}
use Rattle.xm_rules.specs.Opening.{are_carriable, is_still_valid, opening}
use Rattle.xm_rules.specs.Orders.{is_named, is_stop_named, meets, with_rest}
use Rattle.xm_rules.specs.Priority.{without_units}
use Rattle.xm_rules.specs.Refusals.{refusal_of}
use Rattle.xm_rules.specs.Settling.{come, is_continuous, is_free, is_reached, joined, order_of_stop, settle, sweep_of, swept}
use Rattle.xm_rules.specs.Sides.{opposite}
use Rattle.xm_rules.specs.State.{State, ranges, ref1}
use Rattle.xm_rules.specs.Step.{Journal, act, cancelled, changed, changed_order, come_under, determined, entered, entered_order, is_lawful, keeps_priority, reduced, replaced, replay, stage_after, step, stop_of, uncrossed, uncrossed_at}
use Rattle.xm_rules.specs.Sweep.{is_fillable, is_interrupted, rest_after}
use Rattle.xm_rules.specs.declared.commands.Command.{Command}
use Rattle.xm_rules.specs.declared.commands.Command.TheVariants.{Enter, Change, Cancel, CancelAll, StartOpening, StartIntraday, StartClosing, Uncross, EndDay}
use Rattle.xm_rules.specs.declared.commands.Condition.{Condition}
use Rattle.xm_rules.specs.declared.commands.Condition.TheVariants.{Plain, Ioc, Fok, Boc}
use Rattle.xm_rules.specs.declared.orders.Order.{Order}
use Rattle.xm_rules.specs.declared.orders.Side.{Side}
use Rattle.xm_rules.specs.declared.orders.Stop.{Stop}
use Rattle.xm_rules.specs.declared.phases.Auction.{Auction}
use Rattle.xm_rules.specs.declared.phases.Auction.TheVariants.{Interruption}
use Rattle.xm_rules.specs.declared.phases.CallStage.{CallStage}
use Rattle.xm_rules.specs.declared.phases.CallStage.TheVariants.{Ordinary, Interrupted}
use Rattle.xm_rules.specs.declared.phases.Phase.{Phase}
use Rattle.xm_rules.specs.declared.phases.Phase.TheVariants.{Call, Continuous, PreTrading, PostTrading, Ended}
use Rattle.xm_rules.specs.declared.settings.DeskSettings.{DeskSettings}
use Rattle.xm_rules.proofs.Accepted.{change-accepted, entry-accepted}
use Rattle.xm_rules.proofs.AfterCalls.{none_meet_after}
use Rattle.xm_rules.proofs.CallTrades.{call_of}
use Rattle.xm_rules.proofs.CarriedEntries.{CanBeCarried, CanBeHeld, carriable-parts}
use Rattle.xm_rules.proofs.ComingIn.{none_meet}
use Rattle.xm_rules.proofs.Opening.{opening-has}
use Rattle.xm_rules.proofs.Remaining.{each_positioned, is_on_side, joins_queue}
use Rattle.xm_rules.proofs.Replays.{lawful-has, settle-has}

-- ---- a list of orders that were in another

-- an order was one of these, with another rest perhaps
record WasIn (before : List Positioned) (o : Order) : Type 0 where
  pub was : Positioned
  pub stood : Contains before was
  pub kind : o.kind ≡ was.order.kind
  pub side : o.side ≡ was.order.side
  pub restriction : o.restriction ≡ was.order.restriction

later : (first : Positioned) (before : List Positioned) (o : Order) → WasIn before o → WasIn (first ∷ before) o
later first before o w =
    let at = w.stood in
    record { was = w.was; stood = (suc at.0, (let l = at.1 in omega arith), at.2); kind = w.kind; side = w.side; restriction = w.restriction }

itself : (position : ℕ) (orders : List Order) → All (WasIn (positioned_from position orders)) orders
itself position [] = All-nil (WasIn [])
itself position (o ∷ os) =
    let first : Positioned = record { position = position; order = o } in
    All-cons (WasIn (first ∷ positioned_from (position + 1) os)) o os
    (record { was = first; stood = (0, omega arith, refl); kind = refl; side = refl; restriction = refl })
    (All-weaker (WasIn (positioned_from (position + 1) os)) (WasIn (first ∷ positioned_from (position + 1) os)) (later first (positioned_from (position + 1) os)) os
    (itself (position + 1) os))

abbrev WereIn : List Order → List Order → Type 0
WereIn orders left = All (WasIn (positioned_from 0 orders)) left

-- an active order was active, and of its kind
record WasActive (side : Side) (orders : List Order) (i : Positioned) : Type 0 where
  pub was : Positioned
  pub queued : Contains (active Continuous side orders) was
  pub kind : i.order.kind ≡ was.order.kind

was_active : (side : Side) (orders left : List Order) → WereIn orders left → (i : Positioned) → Contains (active Continuous side left) i → WasActive side orders i
was_active side orders left were i at =
    let was_in = λ (x : Positioned). WasIn (positioned_from 0 orders) x.order in
    let w : WasIn (positioned_from 0 orders) i.order =
    All-contains was_in (active Continuous side left) i
    (All-filter (is_active_on Continuous side) was_in (positioned_from 0 left) (each_positioned (WasIn (positioned_from 0 orders)) 0 left were)) at in
    let on : is_active_on Continuous side w.was ≡ true =
    (λ t. is_active_on Continuous side (record { position = 0; order = record i.order { side = sym w.side t; restriction = sym w.restriction t } })) ∙ is_on_side Continuous side left i at in
    record { was = w.was; queued = joins_queue Continuous side orders w.was w.stood on; kind = w.kind }

none_meet_among : (orders left : List Order) → WereIn orders left → NoneMeet orders → NoneMeet left
none_meet_among orders left were none = λ side i j at to.
    let a = was_active side orders left were i at in
    let b = was_active (opposite side) orders left were j to in
    (λ t. meets side (a.kind t) (b.kind t)) ∙ none side a.was b.was a.queued b.queued

among_filtered : (p : Order → Bool) (orders : List Order) → NoneMeet orders → NoneMeet (filter p orders)
among_filtered p orders = none_meet_among orders (filter p orders) (All-filter p (WasIn (positioned_from 0 orders)) orders (itself 0 orders))

with_units_if : (before : List Positioned) (b : Bool) (o : Order) (n : ℕ) → WasIn before o → WasIn before (if b then record o { rest = n } else o)
with_units_if before true o n w = record { was = w.was; stood = w.stood; kind = w.kind; side = w.side; restriction = w.restriction }
with_units_if before false o n w = w

among_reduced : (member reference n : ℕ) (orders : List Order) → NoneMeet orders → NoneMeet (with_rest member reference n orders)
among_reduced member reference n orders =
    let before = positioned_from 0 orders in
    let to = λ (o : Order). (if is_named member reference o then record o { rest = n } else o) in
    none_meet_among orders (with_rest member reference n orders)
    (All-map (WasIn before) to orders
    (All-weaker (WasIn before) (λ (o : Order). WasIn before (to o)) (λ o w. with_units_if before (is_named member reference o) o n w) orders (itself 0 orders)))

-- ---- what each state of a lawful journal has

-- each order and each stop has a unit, and in continuous trading no two orders meet
pub record IsUncrossed (s : State) : Type 0 where
  pub rests : All (λ (o : Order). 1 ≤ o.rest) s.orders
  pub units : All (λ (stop : Stop). 1 ≤ stop.quantity) s.stops
  pub unmet : s.phase ≡ Continuous → NoneMeet s.orders

abbrev HasUnits : Order → Type 0
HasUnits o = 1 ≤ o.rest

abbrev StopHasUnits : Stop → Type 0
StopHasUnits stop = 1 ≤ stop.quantity

left_have_units : (taken : Positioned → ℕ) (orders : List Order) → All HasUnits (without_units taken orders)
left_have_units taken orders =
    let lessened = λ (i : Positioned). (let o = i.order in let p : Order = record o { rest = o.rest - taken i } in p) in
    All-weaker (λ (o : Order). nat_lt 0 o.rest ≡ true) HasUnits (λ o e. (let l = ltb-true 0 o.rest e in omega arith)) (without_units taken orders)
    (filter_passes (λ (o : Order). nat_lt 0 o.rest) (map lessened (positioned_from 0 orders)))

-- ---- an order that comes in

-- it leaves units to each order, and doesn't bring continuous trading about
record ComesIn (s t : State) : Type 0 where
  pub rests : All HasUnits s.orders → All HasUnits t.orders
  pub stops : t.stops ≡ s.stops
  pub phase : t.phase ≡ Continuous → s.phase ≡ Continuous

either_comes : (s t u : State) (b : Bool) → ComesIn s t → ComesIn s u → ComesIn s (if b then t else u)
either_comes s t u true h i = h
either_comes s t u false h i = i

was_continuous : (b : Bool) (phase : Phase) → (if b then Call Interruption Interrupted else phase) ≡ Continuous → phase ≡ Continuous
was_continuous true phase e = absurd (cc)
was_continuous false phase e = e

swept-comes : (s : State) (o : Order) → ComesIn s (swept s o)
swept-comes s o = record { rests = λ some. left_have_units _ s.orders; stops = refl; phase = was_continuous (is_interrupted (sweep_of s o)) s.phase }

joined-comes : (s t : State) (o : Order) → 1 ≤ o.rest → ComesIn s t → ComesIn s (joined t o)
joined-comes s t o l c = record { rests = λ some. All-push HasUnits t.orders o (c.rests some) l; stops = c.stops; phase = c.phase }

rest-comes : (s : State) (o : Order) (n : ℕ) (b : Bool) → (n == 0) ≡ b → ComesIn s (if b then swept s o else joined (swept s o) (record o { rest = n }))
rest-comes s o n true e = swept-comes s o
rest-comes s o n false e = joined-comes s (swept s o) (record o { rest = n }) (let some = eqb-false n 0 e in omega arith) (swept-comes s o)

come-comes : (s : State) (o : Order) → 1 ≤ o.rest → ComesIn s (come s o)
come-comes s o l =
    let rest = rest_after (sweep_of s o) in
    either_comes s _ (joined s o) (is_continuous s.phase && is_free o.restriction) (rest-comes s o rest (rest == 0) refl)
    (joined-comes s s o l (record { rests = λ some. some; stops = refl; phase = λ e. e }))

condition-comes : (condition : Condition) (s : State) (o : Order) → 1 ≤ o.rest → ComesIn s (come_under condition s o)
condition-comes Plain s o l = come-comes s o l
condition-comes Ioc s o l = swept-comes s o
condition-comes Fok s o l = either_comes s (come s o) s (is_fillable (sweep_of s o)) (come-comes s o l) (record { rests = λ some. some; stops = refl; phase = λ e. e })
condition-comes Boc s o l = come-comes s o l

condition-uncrossed : (condition : Condition) (s : State) (o : Order) → 1 ≤ o.rest → IsUncrossed s → IsUncrossed (come_under condition s o)
condition-uncrossed condition s o l u =
    let c = condition-comes condition s o l in
    record {
      rests = c.rests u.rests;
      units = subst (All StopHasUnits) (sym c.stops) u.units;
      unmet = λ phase. none_meet s o (u.unmet (c.phase phase)) condition phase;
    }

entered-uncrossed : (s : State) (condition : Condition) (trigger : Option ℕ) (o : Order) → 1 ≤ o.rest → IsUncrossed s → IsUncrossed (entered s condition trigger o)
entered-uncrossed s condition None o l u = condition-uncrossed condition s o l u
entered-uncrossed s condition (Some trigger) o l u = record { rests = u.rests; units = All-push StopHasUnits s.stops (stop_of trigger o) u.units l; unmet = u.unmet }

-- ---- orders and stops that go

deleted-uncrossed : (s : State) (phase : Phase) (p : Order → Bool) (q : Stop → Bool) → (phase ≡ Continuous → s.phase ≡ Continuous) → IsUncrossed s
    → IsUncrossed (record s { phase = phase; orders = filter p s.orders; stops = filter q s.stops })
deleted-uncrossed s phase p q before u = record {
  rests = All-filter p HasUnits s.orders u.rests;
  units = All-filter q StopHasUnits s.stops u.units;
  unmet = λ e. among_filtered p s.orders (u.unmet (before e));
}

cancelled-uncrossed : (s : State) (member reference : ℕ) → IsUncrossed s → IsUncrossed (cancelled s member reference)
cancelled-uncrossed s member reference =
    deleted-uncrossed s s.phase (λ (o : Order). not (is_named member reference o)) (λ (stop : Stop). not (is_stop_named member reference stop)) (λ e. e)

-- ---- changes

reduced-uncrossed : (s : State) (quantity : ℕ) (o : Order) → 1 ≤ quantity → IsUncrossed s → IsUncrossed (reduced s quantity o)
reduced-uncrossed s quantity o l u = record {
  rests =
      All-map HasUnits (λ (x : Order). if is_named o.member o.reference x then record x { rest = quantity } else x) s.orders
      (All-weaker HasUnits (λ (x : Order). HasUnits (if is_named o.member o.reference x then record x { rest = quantity } else x))
      (λ x h. units_if (is_named o.member o.reference x) x h) s.orders u.rests);
  units = u.units;
  unmet = λ e. among_reduced o.member o.reference quantity s.orders (u.unmet e);
} where
  units_if : (b : Bool) (x : Order) → HasUnits x → HasUnits (if b then record x { rest = quantity } else x)
  units_if true x h = l
  units_if false x h = h

changed-uncrossed : (s : State) (quantity : ℕ) (limit : Option ℕ) (found : Option Order) → 1 ≤ quantity → IsUncrossed s → IsUncrossed (changed s quantity limit found)
changed-uncrossed s quantity limit None l u = u
changed-uncrossed s quantity limit (Some o) l u =
    either (keeps_priority quantity limit o) (reduced-uncrossed s quantity o l u)
    (condition-uncrossed Plain (cancelled s o.member o.reference) (changed_order quantity limit o) l (cancelled-uncrossed s o.member o.reference u))
  where
    either : (b : Bool) → IsUncrossed (reduced s quantity o) → IsUncrossed (replaced s o (changed_order quantity limit o))
        → IsUncrossed (if b then reduced s quantity o else replaced s o (changed_order quantity limit o))
    either true h i = h
    either false h i = i

-- ---- the end of a call

record Ends (s t : State) : Type 0 where
  pub rests : All HasUnits t.orders
  pub stops : t.stops ≡ s.stops

determined-ends : (s : State) (auction : Auction) (stage : CallStage) (priced : ℕ × ℕ) (next : Option CallStage) → All HasUnits s.orders → Ends s (determined s (call_of s auction stage priced) next)
determined-ends s auction stage priced None some = record { rests = left_have_units _ s.orders; stops = refl }
determined-ends s auction stage priced (Some later) some = record { rests = some; stops = refl }

priced-ends : (s : State) (auction : Auction) (stage : CallStage) (priced : Option (ℕ × ℕ)) → All HasUnits s.orders → Ends s (uncrossed_at s auction stage priced)
priced-ends s auction stage None some = record { rests = some; stops = refl }
priced-ends s auction stage (Some priced) some = determined-ends s auction stage priced (stage_after (ranges s) stage priced.0) some

ended-uncrossed : (s : State) (phase : Phase) → IsUncrossed s → IsUncrossed (uncrossed s phase)
ended-uncrossed s (Call auction stage) u =
    let priced = auction_price (Call auction stage) s.orders (ref1 s) in
    let ends = priced-ends s auction stage priced u.rests in
    record {
      rests = ends.rests;
      units = subst (All StopHasUnits) (sym ends.stops) u.units;
      unmet = none_meet_after s auction stage priced refl u.rests;
    }
ended-uncrossed s PreTrading u = u
ended-uncrossed s Continuous u = u
ended-uncrossed s PostTrading u = u
ended-uncrossed s Ended u = u

-- ---- commands

some_units : (n : ℕ) → is_in_range n ≡ true → 1 ≤ n
some_units n e = grind (arith, nat_tests)

called-uncrossed : (s : State) (auction : Auction) → IsUncrossed s → IsUncrossed (record s { phase = Call auction Ordinary })
called-uncrossed s auction u = record { rests = u.rests; units = u.units; unmet = λ e. absurd (cc) }

act-uncrossed : (s : State) (c : Command) → refusal_of s c ≡ None → IsUncrossed s → IsUncrossed (act s c)
act-uncrossed s (Enter member reference side kind quantity validity restriction condition) accepted u =
    entered-uncrossed s condition (trigger_of kind) (entered_order member reference side kind quantity validity restriction)
    (some_units quantity (entry-accepted s member reference side kind quantity validity restriction condition accepted).quantity) u
act-uncrossed s (Change member reference quantity limit) accepted u =
    changed-uncrossed s quantity limit (find (is_named member reference) s.orders)
    (some_units quantity (change-accepted s member reference quantity limit accepted).quantity) u
act-uncrossed s (Cancel member reference) accepted u = cancelled-uncrossed s member reference u
act-uncrossed s (CancelAll member) accepted u =
    deleted-uncrossed s s.phase (λ (o : Order). not (o.member == member)) (λ (stop : Stop). not (stop.member == member)) (λ e. e) u
act-uncrossed s StartOpening accepted u = called-uncrossed s _ u
act-uncrossed s StartIntraday accepted u = called-uncrossed s _ u
act-uncrossed s StartClosing accepted u = called-uncrossed s _ u
act-uncrossed s Uncross accepted u = ended-uncrossed s s.phase u
act-uncrossed s EndDay accepted u =
    deleted-uncrossed s Ended (λ (o : Order). outlasts s.settings.today o.validity) (λ (stop : Stop). outlasts s.settings.today stop.validity) (λ e. absurd (cc)) u

settle-uncrossed : (s : State) → IsUncrossed s → IsUncrossed (settle s [])
settle-uncrossed s u =
    settle-has IsUncrossed StopHasUnits (λ s stop l u. condition-uncrossed Plain s (order_of_stop stop) l u)
    (λ s u. record {
      rests = u.rests;
      units = All-filter (λ (stop : Stop). not (is_reached (ref1 s) stop)) StopHasUnits s.stops u.units;
      unmet = u.unmet;
    })
    (λ s u. All-filter (is_reached (ref1 s)) StopHasUnits s.stops u.units) s u

step-uncrossed : (s : State) (c : Command) → refusal_of s c ≡ None → IsUncrossed s → IsUncrossed (step s c)
unfolding step
step-uncrossed s c accepted u =
    let v = settle-uncrossed (act s c) (act-uncrossed s c accepted u) in
    record { rests = v.rests; units = v.units; unmet = v.unmet }

opening-uncrossed : (settings : DeskSettings) → are_carriable settings ≡ true → IsUncrossed (opening settings)
opening-uncrossed settings h =
    let parts = carriable-parts settings h in
    let entries = settings.carried in
    opening-has IsUncrossed settle-uncrossed settings (record {
      rests = All-filter (λ (o : Order). is_still_valid settings.today o.validity) HasUnits entries.orders
          (All-weaker (CanBeCarried settings.members) HasUnits (λ o c. some_units o.rest c.units) entries.orders parts.orders);
      units = All-filter (λ (stop : Stop). is_still_valid settings.today stop.validity) StopHasUnits entries.stops
          (All-weaker (CanBeHeld settings.members) StopHasUnits (λ stop c. some_units stop.quantity c.order.units) entries.stops parts.stops);
      unmet = λ e. absurd (cc);
    })

pub uncrossed_replay : (j : Journal) → is_lawful j ≡ true → IsUncrossed (replay j)
uncrossed_replay j h = lawful-has IsUncrossed step-uncrossed j h (opening-uncrossed j.settings)

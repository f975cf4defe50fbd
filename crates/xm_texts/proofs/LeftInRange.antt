-- The numbers of the live orders and held stops of a lawful journal are in range.
use Rattle.std.proofs.Common.{◌≡◌, ℕ, ◌-◌, ◌≤◌, ◌==◌, Bool, true, false, not, ◌&&◌, if◌then◌else◌, List, [], ◌∷◌, All, IfSome, cond, filter, get_or, find, map, Option, Some, None, refl, arith}
use Rattle.std.specs.Prelude.{nat_lt}
use Rattle.std.proofs.lemmas.Bool.{and_parts}
use Rattle.std.proofs.lemmas.List.Elements.{All-filter, All-head, All-map, All-push, All-tail, All-weaker}
use Rattle.xm_rules.specs.Active.{Positioned, positioned_from}
use Rattle.xm_rules.specs.Allotment.{allotted}
use Rattle.xm_rules.specs.Auction.{auction_price}
use Rattle.xm_rules.specs.Commands.{has_prices_in_range, is_in_range, order_kind, outlasts, trigger_of}
use Rattle.xm_rules.specs.Opening.{are_carriable, is_still_valid, opening}
use Rattle.xm_rules.specs.Orders.{is_named, is_stop_named, limit_of}
use Rattle.xm_rules.specs.Priority.{without_units}
use Rattle.xm_rules.specs.Refusals.{is_given_in_range, refusal_of}
use Rattle.xm_rules.specs.Settling.{come, is_continuous, is_free, is_reached, joined, order_of_stop, settle, sweep_of, swept}
use Rattle.xm_rules.specs.State.{State, ranges, ref1}
use Rattle.xm_rules.specs.Step.{Journal, act, cancelled, changed, changed_kind, changed_order, come_under, determined, entered, entered_order, is_lawful, keeps_priority, reduced, replaced, replay, stage_after, step, stop_of, uncrossed, uncrossed_at}
use Rattle.xm_rules.specs.Sweep.{fill, is_fillable, rest_after}
use Rattle.xm_rules.specs.declared.commands.Command.{Command}
use Rattle.xm_rules.specs.declared.commands.Command.TheVariants.{Enter, Change, Cancel, CancelAll, StartOpening, StartIntraday, StartClosing, Uncross, EndDay}
use Rattle.xm_rules.specs.declared.commands.Condition.{Condition}
use Rattle.xm_rules.specs.declared.commands.Condition.TheVariants.{Plain, Ioc, Fok, Boc}
use Rattle.xm_rules.specs.declared.commands.Kind.{Kind}
use Rattle.xm_rules.specs.declared.commands.Kind.TheVariants as kind
use Rattle.xm_rules.specs.declared.commands.TheConstants.{MAX_NUMBER}
use Rattle.xm_rules.specs.declared.orders.Order.{Order}
use Rattle.xm_rules.specs.declared.orders.OrderKind.{OrderKind}
use Rattle.xm_rules.specs.declared.orders.Stop.{Stop}
use Rattle.xm_rules.specs.declared.phases.Auction.{Auction}
use Rattle.xm_rules.specs.declared.phases.CallStage.{CallStage}
use Rattle.xm_rules.specs.declared.phases.Phase.{Phase}
use Rattle.xm_rules.specs.declared.phases.Phase.TheVariants.{Call}
use Rattle.xm_rules.specs.declared.settings.DeskSettings.{DeskSettings}
use Rattle.xm_rules.proofs.Accepted.{change-accepted, entry-accepted}
use Rattle.xm_rules.proofs.CallTrades.{call_of}
use Rattle.xm_rules.proofs.CarriedEntries.{CanBeCarried, CanBeHeld, carriable-parts}
use Rattle.xm_rules.proofs.EachKept.{placed}
use Rattle.xm_rules.proofs.Opening.{opening-has}
use Rattle.xm_rules.proofs.Ranges.{range_high, range_within}
use Rattle.xm_rules.proofs.Replays.{lawful-has, settle-has}
use Rattle.xm_rules.proofs.Uncrossed.{uncrossed_replay}

-- no more units than an entry may have, and a limit in range
record IsWithin (o : Order) : Type 0 where
  pub units : o.rest ≤ MAX_NUMBER
  pub limit : is_given_in_range (limit_of o.kind) ≡ true

record IsStopWithin (stop : Stop) : Type 0 where
  pub trigger : is_in_range stop.trigger ≡ true
  pub order : IsWithin (order_of_stop stop)

record AreWithin (s : State) : Type 0 where
  pub orders : All IsWithin s.orders
  pub stops : All IsStopWithin s.stops

either : (t : Bool) (s u : State) → AreWithin s → AreWithin u → AreWithin (if t then s else u)
either true s u h i = h
either false s u h i = i

with-rest : (o : Order) (rest : ℕ) → rest ≤ MAX_NUMBER → IsWithin o → IsWithin (record o { rest = rest })
with-rest o rest few own = record { units = few; limit = own.limit }

lessened-within : (taken : Positioned → ℕ) (os : List Order) → All IsWithin os → All IsWithin (without_units taken os)
lessened-within taken os h =
    let lessened = λ (i : Positioned). (let o = i.order in let p : Order = record o { rest = o.rest - taken i } in p) in
    All-filter (λ (o : Order). nat_lt 0 o.rest) IsWithin (map lessened (positioned_from 0 os))
    (All-map IsWithin lessened (positioned_from 0 os)
    (λ k d l.
    (let i = get_or (positioned_from 0 os) k d in
    let own = placed IsWithin 0 os h k d l in
    let units = own.units in
    with-rest i.order (i.order.rest - taken i) (omega arith) own)))

-- ---- orders coming in

swept-within : (s : State) (o : Order) → AreWithin s → AreWithin (swept s o)
swept-within s o k = record { orders = lessened-within (fill (sweep_of s o)) s.orders k.orders; stops = k.stops }

joined-within : (s : State) (o : Order) → IsWithin o → AreWithin s → AreWithin (joined s o)
joined-within s o own k = record { orders = All-push IsWithin s.orders o k.orders own; stops = k.stops }

come-within : (s : State) (o : Order) → IsWithin o → AreWithin s → AreWithin (come s o)
come-within s o own k =
    let n = rest_after (sweep_of s o) in
    let rest : Order = record o { rest = n } in
    let units = own.units in
    let after = swept-within s o k in
    either (is_continuous s.phase && is_free o.restriction) _ (joined s o)
    (either (n == 0) (swept s o) (joined (swept s o) rest) after (joined-within (swept s o) rest (with-rest o n (omega arith) own) after))
    (joined-within s o own k)

settled-within : (s : State) → AreWithin s → AreWithin (settle s [])
settled-within =
    settle-has AreWithin IsStopWithin (λ s stop h. come-within s (order_of_stop stop) h.order)
    (λ s k. record { orders = k.orders; stops = All-filter (λ (stop : Stop). not (is_reached (ref1 s) stop)) IsStopWithin s.stops k.stops })
    (λ s k. All-filter (is_reached (ref1 s)) IsStopWithin s.stops k.stops)

-- ---- commands

condition-within : (condition : Condition) (s : State) (o : Order) → IsWithin o → AreWithin s → AreWithin (come_under condition s o)
condition-within Plain s o own k = come-within s o own k
condition-within Ioc s o own k = swept-within s o k
condition-within Fok s o own k = either (is_fillable (sweep_of s o)) (come s o) s (come-within s o own k) k
condition-within Boc s o own k = come-within s o own k

entered-within : (s : State) (condition : Condition) (trigger : Option ℕ) (o : Order) → is_given_in_range trigger ≡ true → IsWithin o → AreWithin s → AreWithin (entered s condition trigger o)
entered-within s condition None o given own k = condition-within condition s o own k
entered-within s condition (Some trigger) o given own k =
    record {
      orders = k.orders;
      stops = All-push IsStopWithin s.stops (stop_of trigger o) k.stops (record { trigger = given; order = record { units = own.units; limit = own.limit } });
    }

filtered-within : (s : State) (phase : Phase) (p : Order → Bool) (q : Stop → Bool) → AreWithin s → AreWithin (record s { phase = phase; orders = filter p s.orders; stops = filter q s.stops })
filtered-within s phase p q k = record { orders = All-filter p IsWithin s.orders k.orders; stops = All-filter q IsStopWithin s.stops k.stops }

cancelled-within : (s : State) (member reference : ℕ) → AreWithin s → AreWithin (cancelled s member reference)
cancelled-within s member reference = filtered-within s s.phase (λ (o : Order). not (is_named member reference o)) (λ (stop : Stop). not (is_stop_named member reference stop))

rested : (b : Bool) (o : Order) (rest : ℕ) → rest ≤ MAX_NUMBER → IsWithin o → IsWithin (if b then record o { rest = rest } else o)
rested true o rest few own = with-rest o rest few own
rested false o rest few own = own

reduced-within : (s : State) (quantity : ℕ) (o : Order) → quantity ≤ MAX_NUMBER → AreWithin s → AreWithin (reduced s quantity o)
reduced-within s quantity o few k =
    record {
      orders = All-map IsWithin (λ (x : Order). if is_named o.member o.reference x then record x { rest = quantity } else x) s.orders
          (λ i d l. (let x = get_or s.orders i d in rested (is_named o.member o.reference x) x quantity few (k.orders i d l)));
      stops = k.stops;
    }

found_if : (b : Bool) (o : Order) (found : Option Order) → IsWithin o → IfSome found IsWithin → IfSome (cond b (Some o) found) IsWithin
found_if true o found h i = h
found_if false o found h i = i

found : (p : Order → Bool) (os : List Order) → All IsWithin os → IfSome (find p os) IsWithin
found p [] h = tt
found p (o ∷ os) h = found_if (p o) o (find p os) (All-head IsWithin o os h) (found p os (All-tail IsWithin o os h))

limit-changed : (limit : Option ℕ) (k : OrderKind) → is_given_in_range limit ≡ true → is_given_in_range (limit_of k) ≡ true → is_given_in_range (limit_of (changed_kind limit k)) ≡ true
limit-changed None k given own = own
limit-changed (Some p) k given own = given

changed-within : (s : State) (quantity : ℕ) (limit : Option ℕ) (found : Option Order) → quantity ≤ MAX_NUMBER → is_given_in_range limit ≡ true → IfSome found IsWithin → AreWithin s
    → AreWithin (changed s quantity limit found)
changed-within s quantity limit None few given own k = k
changed-within s quantity limit (Some o) few given own k =
    let again : IsWithin (changed_order quantity limit o) = record { units = few; limit = limit-changed limit o.kind given own.limit } in
    either (keeps_priority quantity limit o) (reduced s quantity o) (replaced s o (changed_order quantity limit o)) (reduced-within s quantity o few k)
    (come-within (cancelled s o.member o.reference) (changed_order quantity limit o) again (cancelled-within s o.member o.reference k))

turned-within : (s : State) (phase : Phase) → AreWithin s → AreWithin (record s { phase = phase })
turned-within s phase k = record { orders = k.orders; stops = k.stops }

determined-within : (s : State) (auction : Auction) (stage : CallStage) (priced : ℕ × ℕ) (next : Option CallStage) → AreWithin s → AreWithin (determined s (call_of s auction stage priced) next)
determined-within s auction stage priced None k = record { orders = lessened-within (allotted (call_of s auction stage priced)) s.orders k.orders; stops = k.stops }
determined-within s auction stage priced (Some later) k = turned-within s _ k

ended-within : (s : State) (auction : Auction) (stage : CallStage) (priced : Option (ℕ × ℕ)) → AreWithin s → AreWithin (uncrossed_at s auction stage priced)
ended-within s auction stage None k = turned-within s _ k
ended-within s auction stage (Some priced) k = determined-within s auction stage priced (stage_after (ranges s) stage priced.0) k

uncrossed-within : (s : State) (phase : Phase) → AreWithin s → AreWithin (uncrossed s phase)
uncrossed-within s (Call auction stage) k = ended-within s auction stage (auction_price (Call auction stage) s.orders (ref1 s)) k
uncrossed-within s _ k = k

prices-entered : (k : Kind) → has_prices_in_range k ≡ true → (is_given_in_range (trigger_of k) ≡ true) × (is_given_in_range (limit_of (order_kind k)) ≡ true)
prices-entered kind.Market e = (refl, refl)
prices-entered (kind.Limit p) e = (refl, e)
prices-entered (kind.StopMarket t) e = (e, refl)
prices-entered (kind.StopLimit t p) e = let parts = and_parts (is_in_range t) (is_in_range p) e in (parts.0, parts.1)

act-within : (s : State) (c : Command) → refusal_of s c ≡ None → AreWithin s → AreWithin (act s c)
act-within s (Enter member reference side kind quantity validity restriction condition) h k =
    let passes = entry-accepted s member reference side kind quantity validity restriction condition h in
    let prices = prices-entered kind passes.prices in
    entered-within s condition (trigger_of kind) (entered_order member reference side kind quantity validity restriction) prices.0
    (record { units = range_high quantity passes.quantity; limit = prices.1 }) k
act-within s (Change member reference quantity limit) h k =
    let passes = change-accepted s member reference quantity limit h in
    changed-within s quantity limit (find (is_named member reference) s.orders) (range_high quantity passes.quantity) passes.limit
    (found (is_named member reference) s.orders k.orders) k
act-within s (Cancel member reference) h k = cancelled-within s member reference k
act-within s (CancelAll member) h k = filtered-within s s.phase (λ (o : Order). not (o.member == member)) (λ (stop : Stop). not (stop.member == member)) k
act-within s StartOpening h k = turned-within s _ k
act-within s StartIntraday h k = turned-within s _ k
act-within s StartClosing h k = turned-within s _ k
act-within s Uncross h k = uncrossed-within s s.phase k
act-within s EndDay h k =
    filtered-within s _ (λ (o : Order). outlasts s.settings.today o.validity) (λ (stop : Stop). outlasts s.settings.today stop.validity) k

step-within : (s : State) (c : Command) → refusal_of s c ≡ None → AreWithin s → AreWithin (step s c)
unfolding step
step-within s c h k = let after = settled-within (act s c) (act-within s c h k) in record { orders = after.orders; stops = after.stops }

opening-within : (settings : DeskSettings) → are_carriable settings ≡ true → AreWithin (opening settings)
opening-within settings h =
    let parts = carriable-parts settings h in
    let entries = settings.carried in
    opening-has AreWithin settled-within settings (record {
      orders = All-filter (λ (o : Order). is_still_valid settings.today o.validity) IsWithin entries.orders
          (All-weaker (CanBeCarried settings.members) IsWithin (λ o c. record { units = range_high o.rest c.units; limit = c.limit }) entries.orders parts.orders);
      stops = All-filter (λ (stop : Stop). is_still_valid settings.today stop.validity) IsStopWithin entries.stops
          (All-weaker (CanBeHeld settings.members) IsStopWithin
          (λ stop c. record { trigger = c.trigger; order = record { units = range_high stop.quantity c.order.units; limit = c.order.limit } }) entries.stops parts.stops);
    })

within_replay : (j : Journal) → is_lawful j ≡ true → AreWithin (replay j)
within_replay j h = lawful-has AreWithin step-within j h (opening-within j.settings)

-- ---- with a unit at least

-- units and the limit are in range
pub record IsInRange (o : Order) : Type 0 where
  pub units : is_in_range o.rest ≡ true
  pub limit : is_given_in_range (limit_of o.kind) ≡ true

pub record IsStopInRange (stop : Stop) : Type 0 where
  pub trigger : is_in_range stop.trigger ≡ true
  pub order : IsInRange (order_of_stop stop)

pub orders-in_range : (j : Journal) → is_lawful j ≡ true → All IsInRange (replay j).orders
orders-in_range j h = λ k d l.
    let own = (within_replay j h).orders k d l in
    record { units = range_within _ ((uncrossed_replay j h).rests k d l) own.units; limit = own.limit }

pub stops-in_range : (j : Journal) → is_lawful j ≡ true → All IsStopInRange (replay j).stops
stops-in_range j h = λ k d l.
    let own = (within_replay j h).stops k d l in
    record { trigger = own.trigger; order = record { units = range_within _ ((uncrossed_replay j h).units k d l) own.order.units; limit = own.order.limit } }

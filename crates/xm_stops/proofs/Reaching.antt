-- The stops of the nearest trigger are reached where any of their side is.
use Rattle.xm_rules.specs.declared.orders.Stop.{Stop}
use Rattle.std.proofs.Common.{◌≡◌, ℕ, ◌<◌, ◌≤◌, Bool, true, false, List, [], ◌∷◌, length, filter, Contains, Option, Some, None, IfNone, IfSome, IsSome, refl, sym, ap, ◌∙◌, subst, arith}
use Rattle.std.specs.Prelude.{slice_get}
use Rattle.std.proofs.lemmas.Bool.{and_from, and_parts}
use Rattle.std.proofs.lemmas.Bool.Decides.{nat_tests}
use Rattle.std.proofs.lemmas.List.Elements.{All-contains}
use Rattle.xm_queues.specs.Queue.{IsQueue}
use Rattle.xm_queues.specs.declared.links.Link.{Link}
use Rattle.xm_queues.specs.declared.queues.Ends.{Ends}
use Rattle.xm_rules.specs.Settling.{is_reached}
use Rattle.xm_rules.specs.Sides.{reaches, same_side}
use Rattle.xm_rules.specs.declared.orders.Side.{Side}
use Rattle.xm_rules.specs.declared.orders.Side.TheVariants.{Buy, Sell}
use Rattle.xm_slots.specs.Listing.{keys_in}
use Rattle.xm_stops.specs.Queued.{HasItsTrigger, HoldsQueue, AreStopsQueued, IsReachedOn, has_reached, has_reached_on, is_of_trigger, stops_of_trigger}
use Rattle.xm_slots.specs.Slots.{SlotsView}
use Rattle.xm_stops.specs.Triggers.{IsNearest, queue_of, table_of}
use Rattle.xm_slots.specs.declared.listing.Listed.{Listed}
use Rattle.xm_stops.specs.declared.trigger_queues.TriggerQueues.{TriggerQueues}
use Rattle.xm_stops.proofs.Joining.{at-itself, is-at, side-is, side-itself}
use Rattle.xm_slots.proofs.Members.{Contains-filter, Contains-here, Contains-none, Passes-filter, filter_none}
use Rattle.xm_ticks.specs.declared.numbers.TheConstants.{MAX_PRICE}

-- a price that isn't the nearest trigger's, but reached, is nearer
beyond : (side : Side) (last trigger p : ℕ) → reaches side last trigger ≡ false → reaches side last p ≡ true → reaches side p trigger ≡ false
beyond Buy last trigger p h k = grind (arith, nat_tests)
beyond Sell last trigger p h k = grind (arith, nat_tests)

-- the first of the stops of a queue
pub record IsFirstOf (ms : List (Listed Stop)) : Type 0 where
  pub listed : Listed Stop
  pub contains : Contains ms listed
  pub first : slice_get (keys_in ms) 0 ≡ Some listed.key

first-of : (ms : List (Listed Stop)) → 0 < length ms → IsFirstOf ms
first-of [] h = absurd (omega (arith, h))
first-of (x ∷ ms) h = record { listed = x; contains = Contains-here x ms; first = refl }

module _ {A : Type 0} (xs : List (Listed Stop)) (entries : SlotsView Stop) (links : List Link) (triggers : TriggerQueues A) (h : AreStopsQueued xs entries links triggers) (side : Side) where
  unplaced : (x : Listed Stop) → Contains xs x → same_side side x.item.side ≡ true → queue_of triggers side x.item.trigger ≡ None → ⊥
  unplaced x at same none =
      let held : stops_of_trigger side x.item.trigger xs ≡ [] = subst (λ (l : Option Ends). HoldsQueue links l (stops_of_trigger side x.item.trigger xs)) none (h.queues side x.item.trigger) in
      let passes = at-itself side x.item.trigger x.item (record { side = side-is side x.item.side same; trigger = refl }) in
      Contains-none x (subst (λ (ys : List (Listed Stop)). Contains ys x) held (Contains-filter (is_of_trigger side x.item.trigger) xs x passes at))

  -- no stop is reached where no queue has a trigger that is
  pub none-reached : (last : ℕ) → ((p : ℕ) → reaches side last p ≡ true → queue_of triggers side p ≡ None) → filter (has_reached_on side last) xs ≡ []
  none-reached last none = filter_none (has_reached_on side last) xs (λ x at. test x at (has_reached_on side last x) refl)
    where
      test : (x : Listed Stop) → Contains xs x → (b : Bool) → has_reached_on side last x ≡ b → b ≡ false
      test x at false e = refl
      test x at true e =
          let parts = and_parts (same_side side x.item.side) (is_reached last x.item) e in
          let reached = subst (λ (s : Side). reaches s last x.item.trigger ≡ true) (sym (side-is side x.item.side parts.0)) parts.1 in
          absurd (unplaced x at parts.0 (none x.item.trigger reached))

  module _ (trigger : ℕ) where
    pub none-nearer : (last : ℕ) → IsNearest side (table_of side triggers) trigger → false ≡ reaches side last trigger → filter (has_reached_on side last) xs ≡ []
    none-nearer last near beyond-it = none-reached last (λ p reached. near.nearest p (beyond side last trigger p (sym beyond-it) reached))

    module _ (ends : Ends) (there : queue_of triggers side trigger ≡ Some ends) where
      pub first : IsFirstOf (stops_of_trigger side trigger xs)
      first = first-of (stops_of_trigger side trigger xs) (subst (λ (l : Option Ends). HoldsQueue links l (stops_of_trigger side trigger xs)) there (h.queues side trigger)).some

      pub front-is : (found : Option ℕ) → ((links : List Link) (keys : List ℕ) → IsQueue links ends keys → found ≡ slice_get keys 0) → found ≡ Some first.listed.key
      front-is found front = front links (keys_in (stops_of_trigger side trigger xs)) (subst (λ (l : Option Ends). HoldsQueue links l (stops_of_trigger side trigger xs)) there (h.queues side trigger)).queue ∙ first.first

      -- the first of the queue is reached where its trigger is
      first-reached : (last : ℕ) → true ≡ reaches side last trigger → (key : ℕ) → Some key ≡ Some first.listed.key → IsReachedOn side last xs key
      first-reached last reached key same =
          let passes = Passes-filter (is_of_trigger side trigger) xs first.listed first.contains in
          let at = is-at side trigger first.listed.item passes.passes in
          record {
            listed = first.listed;
            contains = passes.contains;
            key_is = cc;
            passes =
                and_from (same_side side first.listed.item.side) (is_reached last first.listed.item) (ap (same_side side) (sym at.side) ∙ side-itself side)
                ((λ i. reaches (sym at.side i) last (sym at.trigger i)) ∙ sym reached);
          }

      -- and so is what the queue answers
      pub front-reached : (last : ℕ) → true ≡ reaches side last trigger → (found : Option ℕ) → ((links : List Link) (keys : List ℕ) → IsQueue links ends keys → found ≡ slice_get keys 0)
          → IfSome found (IsReachedOn side last xs)
      front-reached last reached None front = tt
      front-reached last reached (Some key) front = first-reached last reached key (front-is (Some key) front)

      pub front-there : (P : Type 0) (found : Option ℕ) → ((links : List Link) (keys : List ℕ) → IsQueue links ends keys → found ≡ slice_get keys 0) → IfNone found P
      front-there P None front = absurd (let e = front-is None front in cc)
      front-there P (Some key) front = tt

      pub in-range : trigger ≤ MAX_PRICE
      in-range =
          let passes = Passes-filter (is_of_trigger side trigger) xs first.listed first.contains in
          let at = is-at side trigger first.listed.item passes.passes in
          let placed = All-contains (λ (x : Listed Stop). HasItsTrigger triggers x.item) xs first.listed h.placed passes.contains in
          omega (arith, at.trigger, placed.in_range)

    pub near-in-range : IsNearest side (table_of side triggers) trigger → trigger ≤ MAX_PRICE
    near-in-range near = by_queue (queue_of triggers side trigger) refl near.there
      where
        by_queue : (l : Option Ends) → queue_of triggers side trigger ≡ l → IsSome l → trigger ≤ MAX_PRICE
        by_queue None e there = absurd (cc)
        by_queue (Some ends) e there = in-range ends e

-- no stop of either side
no-side : (last : ℕ) (xs : List (Listed Stop)) → filter (has_reached_on Buy last) xs ≡ [] → filter (has_reached_on Sell last) xs ≡ [] → filter (has_reached last) xs ≡ []
no-side last xs buys sells = filter_none (has_reached last) xs (λ x at. by_test x at (has_reached last x) refl)
  where
    out : (side : Side) → filter (has_reached_on side last) xs ≡ [] → (x : Listed Stop) → Contains xs x → side ≡ x.item.side → has_reached last x ≡ true → ⊥
    out side none x at same e =
        Contains-none x (subst (λ (ys : List (Listed Stop)). Contains ys x) none (Contains-filter (has_reached_on side last) xs x
        (and_from (same_side side x.item.side) (is_reached last x.item) (ap (same_side side) (sym same) ∙ side-itself side) e) at))

    by_side : (s : Side) (x : Listed Stop) → s ≡ x.item.side → Contains xs x → has_reached last x ≡ true → ⊥
    by_side Buy x same at e = out Buy buys x at same e
    by_side Sell x same at e = out Sell sells x at same e

    by_test : (x : Listed Stop) → Contains xs x → (b : Bool) → has_reached last x ≡ b → b ≡ false
    by_test x at false e = refl
    by_test x at true e = absurd (by_side x.item.side x refl at e)

pub none-of-both : (last : ℕ) (xs : List (Listed Stop)) (found : Option ℕ) → IfNone found (filter (has_reached_on Sell last) xs ≡ []) → filter (has_reached_on Buy last) xs ≡ []
    → IfNone found (filter (has_reached last) xs ≡ [])
none-of-both last xs None sells buys = no-side last xs buys sells
none-of-both last xs (Some key) sells buys = tt

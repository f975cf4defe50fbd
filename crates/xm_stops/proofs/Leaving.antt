-- A stop leaves the queue of its side and trigger.
use Rattle.xm_slots.proofs.Leaving.{all-stay, distinct-left, filters, itself, keys-left, listed-at, one-less}
use Rattle.std.proofs.Common.{◌≡◌, ◌≢◌, ℕ, ◌+◌, Bool, true, false, not, List, [], ◌∷◌, length, get_or, filter, Contains, Option, Some, None, IsSome, refl, rules, sym, ap, ◌∙◌, subst, arith, nat_eq}
use Rattle.std.specs.List.{All}
use Rattle.std.proofs.lemmas.Bool.{false≢true}
use Rattle.std.proofs.lemmas.List.{length-map}
use Rattle.std.proofs.lemmas.List.Elements.{All-contains, Contains-get_or}
use Rattle.xm_queues.specs.Keys.{AreApart, without}
use Rattle.xm_queues.specs.Queue.{HasKey, IsQueue, key_limit}
use Rattle.xm_queues.specs.declared.links.Link.{Link}
use Rattle.xm_queues.specs.declared.queues.Ends.{Ends}
use Rattle.xm_rules.specs.declared.orders.Side.{Side}
use Rattle.xm_rules.specs.declared.orders.Stop.{Stop}
use Rattle.xm_slots.specs.Listing.{is_other_key, keys_in, LiesAt}
use Rattle.xm_stops.specs.Queued.{HasItsTrigger, HoldsQueue, AreStopsQueued, is_of_trigger, stops_of_trigger}
use Rattle.xm_slots.specs.Slots.{SlotsView, Updates, get, used}
use Rattle.xm_stops.specs.Triggers.{HasTrigger, IsQueueFound, IsQueueSet, is_same_place, queue_of}
use Rattle.xm_slots.specs.declared.entry.Entry.{Entry}
use Rattle.xm_slots.specs.declared.listing.Listed.{Listed}
use Rattle.xm_stops.specs.declared.trigger_queues.TriggerQueues.{TriggerQueues}
use Rattle.xm_slots.proofs.Tests.{same_some}
use Rattle.xm_stops.proofs.Joining.{apart, at-itself, here, is-at, placed-kept}
use Rattle.xm_slots.proofs.Members.{Contains-filter, Contains-map, Contains-none, Passes-filter}

module _ {A : Type 0} (xs : List (Listed Stop)) (entries : SlotsView Stop) (links : List Link) (triggers : TriggerQueues A) (h : AreStopsQueued xs entries links triggers) where
  -- the stop whose entry lies under a key that is listed
  module _ (key : ℕ) (at : Contains (keys_in xs) key) (e : Entry Stop) (v : get entries key ≡ Some e) where
    abbrev pub taken : Listed Stop
    taken = (listed-at xs entries h.lie key at).0

    abbrev pub o : Stop
    o = e.item

    -- the stops of its queue
    abbrev pub its : List (Listed Stop)
    its = stops_of_trigger o.side o.trigger xs

    taken-stop : taken.item ≡ o
    taken-stop = let l = listed-at xs entries h.lie key at in ap (λ (y : Entry Stop). y.item) (same_some (sym l.3 ∙ ap (get entries) l.2 ∙ v))

    pub placed-there : HasItsTrigger triggers o
    placed-there = subst (λ (w : Stop). HasItsTrigger triggers w) taken-stop (All-contains (λ (x : Listed Stop). HasItsTrigger triggers x.item) xs taken h.placed (listed-at xs entries h.lie key at).1)

    in-its : Contains its taken
    in-its = Contains-filter (is_of_trigger o.side o.trigger) xs taken
        (at-itself o.side o.trigger taken.item (record { side = ap (λ (w : Stop). w.side) (sym taken-stop); trigger = ap (λ (w : Stop). w.trigger) (sym taken-stop) })) (listed-at xs entries h.lie key at).1

    key-in-its : Contains (keys_in its) key
    key-in-its = subst (λ (n : ℕ). Contains (keys_in its) n) (listed-at xs entries h.lie key at).2 (Contains-map (λ (y : Listed Stop). y.key) its taken in-its)

    pub queue-there : IsSome (queue_of triggers o.side o.trigger)
    queue-there = some_at (queue_of triggers o.side o.trigger) (h.queues o.side o.trigger)
      where
        some_at : (l : Option Ends) → HoldsQueue links l its → IsSome l
        some_at None none = absurd (Contains-none taken (subst (λ (ys : List (Listed Stop)). Contains ys taken) none in-its))
        some_at (Some l) there = search rules

    module _ (ends : Ends) (f : IsQueueFound (queue_of triggers o.side o.trigger) ends) where
      base : IsQueue links ends (keys_in its)
      base = here xs entries links triggers h o ends f

      pub key-there : HasKey links ends key
      key-there = record { keys = keys_in its; queue = base; member = key-in-its }

      module _ (entries' : SlotsView Stop) (u : Updates entries entries' key None) (len : used entries' + 1 ≡ used entries) (cap : entries'.capacity ≡ entries.capacity)
          (links' : List Link) (ends' : Ends) (left : (keys : List ℕ) → IsQueue links ends keys → IsQueue links' ends' (without key keys))
          (others : (other : Ends) (keys keys' : List ℕ) → IsQueue links ends keys → IsQueue links other keys' → AreApart keys keys' → IsQueue links' other keys')
          (limit : key_limit links' ≡ key_limit links) (triggers' : TriggerQueues A) (set : IsQueueSet (queue_of triggers' o.side o.trigger) ends')
          (same : (s : Side) (p : ℕ) → is_same_place s p o.side o.trigger ≡ false → queue_of triggers' s p ≡ queue_of triggers s p)
          (kept-triggers : (s : Side) (p : ℕ) → HasTrigger triggers s p → HasTrigger triggers' s p) where
        abbrev rest_of : List (Listed Stop)
        rest_of = filter (is_other_key key) its

        shorter : IsQueue links' ends' (keys_in rest_of)
        shorter = subst (λ (ks : List ℕ). IsQueue links' ends' ks) (sym (keys-left key its)) (left (keys_in its) base)

        none-left : (ys : List (Listed Stop)) → keys_in ys ≡ [] → ys ≡ []
        none-left [] z = refl
        none-left (y ∷ ys) z = absurd (omega (arith, ap length z))

        set-holds : (l : Option Ends) → IsQueueSet l ends' → HoldsQueue links' l rest_of
        set-holds None none = none-left rest_of (none links' (keys_in rest_of) shorter)
        set-holds (Some l) s = record {
          queue = subst (λ (e : Ends). IsQueue links' e (keys_in rest_of)) (sym s.0) shorter;
          some = omega (arith, s.1 links' (keys_in rest_of) shorter, length-map rest_of (λ (x : Listed Stop). x.key));
        }

        module _ (s : Side) (p : ℕ) where
          kept : is_same_place s p o.side o.trigger ≡ false → (l : Option Ends) → HoldsQueue links l (stops_of_trigger s p xs) → HoldsQueue links' l (stops_of_trigger s p xs)
          kept off None z = z
          kept off (Some l) z = record { queue = others l (keys_in its) (keys_in (stops_of_trigger s p xs)) base z.queue (apart xs entries links triggers h o ends f s p off); some = z.some }

          holds_if : (b : Bool) → is_same_place s p o.side o.trigger ≡ b → HoldsQueue links' (queue_of triggers' s p) (filter (is_other_key key) (stops_of_trigger s p xs))
          holds_if true t =
              let w = is-at s p o t in
              subst (λ (l : Option Ends). HoldsQueue links' l (filter (is_other_key key) (stops_of_trigger s p xs))) (λ i. queue_of triggers' (sym w.side i) (sym w.trigger i))
              (subst (λ (ys : List (Listed Stop)). HoldsQueue links' (queue_of triggers' o.side o.trigger) (filter (is_other_key key) ys)) (λ i. stops_of_trigger (sym w.side i) (sym w.trigger i) xs) (set-holds (queue_of triggers' o.side o.trigger) set))
          holds_if false t =
              subst (λ (l : Option Ends). HoldsQueue links' l (filter (is_other_key key) (stops_of_trigger s p xs))) (sym (same s p t))
              (subst (λ (ys : List (Listed Stop)). HoldsQueue links' (queue_of triggers s p) ys) (sym (all-stay key (stops_of_trigger s p xs) (λ c. apart xs entries links triggers h o ends f s p t key key-in-its c)))
              (kept t (queue_of triggers s p) (h.queues s p)))

          holds : HoldsQueue links' (queue_of triggers' s p) (stops_of_trigger s p (filter (is_other_key key) xs))
          holds = subst (λ (ys : List (Listed Stop)). HoldsQueue links' (queue_of triggers' s p) ys) (filters (is_other_key key) (is_of_trigger s p) xs) (holds_if (is_same_place s p o.side o.trigger) refl)

        other-key : (y : Listed Stop) → is_other_key key y ≡ true → y.key ≢ key
        other-key y t e = absurd (false≢true (sym (ap not (ap (λ (n : ℕ). nat_eq n key) e ∙ itself key)) ∙ t))

        kept-all : (P : Listed Stop → Type 0) → ((y : Listed Stop) → Contains xs y → is_other_key key y ≡ true → P y) → All P (filter (is_other_key key) xs)
        kept-all P each i d lt =
            let y = get_or (filter (is_other_key key) xs) i d in
            let at-y = Passes-filter (is_other_key key) xs y (Contains-get_or (filter (is_other_key key) xs) i d lt) in
            each y at-y.contains at-y.passes

        fewer : length (filter (is_other_key key) xs) + 1 ≡ length xs
        fewer = ap (λ (n : ℕ). length (filter (is_other_key n) xs) + 1) (sym (listed-at xs entries h.lie key at).2) ∙ one-less taken xs h.distinct (listed-at xs entries h.lie key at).1

        pub left-queued : AreStopsQueued (filter (is_other_key key) xs) entries' links' triggers'
        left-queued = record {
          lie = kept-all (LiesAt entries') (λ y c t. u.others y.key (other-key y t) ∙ All-contains (LiesAt entries) xs y h.lie c);
          distinct = distinct-left key xs h.distinct;
          count = omega (arith, len, h.count, fewer);
          placed = kept-all (λ (y : Listed Stop). HasItsTrigger triggers' y.item) (λ y c t. placed-kept triggers triggers' kept-triggers y.item (All-contains (λ (z : Listed Stop). HasItsTrigger triggers z.item) xs y h.placed c));
          queues = holds;
          fits = omega (arith, cap, limit, h.fits);
        }

-- A stop joins the queue of its side and trigger.
use Rattle.xm_slots.proofs.Tests.{same_some, some_none}
use Rattle.std.proofs.Common.{◌≡◌, ℕ, ◌+◌, Bool, true, false, ◌&&◌, ◌==◌, if◌then◌else◌, List, [], ◌∷◌, ◌++◌, get_or, filter, Contains, Option, Some, None, refl, sym, ap, ◌∙◌, subst, arith}
use Rattle.std.specs.List.{All}
use Rattle.std.proofs.lemmas.Bool.{and_parts, and_from, eqb-true, false≢true}
use Rattle.std.proofs.lemmas.Bool.Decides.{nat_tests}
use Rattle.std.proofs.lemmas.List.{append-nil, map-append, length-append}
use Rattle.std.proofs.lemmas.List.Elements.{All-contains, All-append, All-cons, All-nil, filter-append}
use Rattle.xm_queues.specs.Keys.{AreApart, AreDistinct}
use Rattle.xm_queues.specs.Queue.{IsQueue, LacksKey, key_limit}
use Rattle.xm_queues.specs.declared.links.Link.{Link}
use Rattle.xm_queues.specs.declared.queues.Ends.{Ends}
use Rattle.xm_rules.specs.Sides.{same_side}
use Rattle.xm_rules.specs.declared.orders.Side.{Side}
use Rattle.xm_rules.specs.declared.orders.Side.TheVariants.{Buy, Sell}
use Rattle.xm_rules.specs.declared.orders.Stop.{Stop}
use Rattle.xm_slots.specs.Listing.{keys_in, listed_entry, LiesAt}
use Rattle.xm_stops.specs.Queued.{HasItsTrigger, HoldsQueue, IsQueueOf, AreStopsQueued, is_of_trigger, stops_of_trigger}
use Rattle.xm_slots.specs.Slots.{SlotsView, Updates, get, used}
use Rattle.xm_stops.specs.Triggers.{HasTrigger, IsQueueFound, is_same_place, queue_of}
use Rattle.xm_slots.specs.declared.entry.Entry.{Entry}
use Rattle.xm_slots.specs.declared.listing.Listed.{Listed}
use Rattle.xm_stops.specs.declared.trigger_queues.TriggerQueues.{TriggerQueues}
use Rattle.xm_slots.proofs.Distinct.{distinct-push}
use Rattle.xm_slots.proofs.Members.{IsMade-map, Passes-filter}

pub side-is : (s t : Side) → same_side s t ≡ true → s ≡ t
side-is Buy Buy h = refl
side-is Buy Sell h = absurd (cc)
side-is Sell Buy h = absurd (cc)
side-is Sell Sell h = refl

pub side-itself : (s : Side) → same_side s s ≡ true
side-itself Buy = refl
side-itself Sell = refl

price-itself : (p : ℕ) → (p == p) ≡ true
price-itself p = grind (arith, nat_tests)

-- where a stop stands
pub record IsAt (s : Side) (p : ℕ) (o : Stop) : Type 0 where
  pub side : s ≡ o.side
  pub trigger : p ≡ o.trigger

pub is-at : (s : Side) (p : ℕ) (o : Stop) → is_same_place s p o.side o.trigger ≡ true → IsAt s p o
is-at s p o h =
    let parts = and_parts (same_side s o.side) (p == o.trigger) h in
    record { side = side-is s o.side parts.0; trigger = eqb-true p o.trigger parts.1 }

pub at-itself : (s : Side) (p : ℕ) (o : Stop) → IsAt s p o → is_same_place s p o.side o.trigger ≡ true
at-itself s p o h =
    (λ i. same_side (h.side i) o.side && (h.trigger i == o.trigger))
    ∙ and_from (same_side o.side o.side) (o.trigger == o.trigger) (side-itself o.side) (price-itself o.trigger)

-- the keys of a queue that was looked for
pub found-queue : (links : List Link) (there : Option Ends) (ends : Ends) (ms : List (Listed Stop)) → IsQueueFound there ends → HoldsQueue links there ms → IsQueue links ends (keys_in ms)
found-queue links None ends ms f e = subst (λ (ys : List (Listed Stop)). IsQueue links ends (keys_in ys)) (sym e) (f links)
found-queue links (Some x) ends ms f e = subst (λ (l : Ends). IsQueue links l (keys_in ms)) (sym f) e.queue

pub placed-kept : {A : Type 0} (triggers triggers' : TriggerQueues A) → ((s : Side) (p : ℕ) → HasTrigger triggers s p → HasTrigger triggers' s p)
    → (o : Stop) → HasItsTrigger triggers o → HasItsTrigger triggers' o
placed-kept triggers triggers' kept o h = record { in_range = h.in_range; room = kept o.side o.trigger h.room }

module _ {A : Type 0} (xs : List (Listed Stop)) (entries : SlotsView Stop) (links : List Link) (triggers : TriggerQueues A) (h : AreStopsQueued xs entries links triggers) where
  -- each key of a queue has a stop
  pub has-stop : (p : Listed Stop → Bool) (key : ℕ) → Contains (keys_in (filter p xs)) key → (x : Listed Stop) × (Contains xs x) × (p x ≡ true) × (x.key ≡ key) × LiesAt entries x
  has-stop p key at =
      let made = IsMade-map (λ (x : Listed Stop). x.key) (filter p xs) key at in
      let passes = Passes-filter p xs made.from made.contains in
      (made.from, passes.contains, passes.passes, made.made, All-contains (LiesAt entries) xs made.from h.lie passes.contains)

  pub vacant-key : (p : Listed Stop → Bool) (key : ℕ) → get entries key ≡ None → Contains (keys_in (filter p xs)) key → ⊥
  vacant-key p key vacant at = let x = has-stop p key at in some_none (sym x.4 ∙ ap (get entries) x.3 ∙ vacant)

  module _ (o : Stop) (ends : Ends) (f : IsQueueFound (queue_of triggers o.side o.trigger) ends) where
    pub here : IsQueue links ends (keys_in (stops_of_trigger o.side o.trigger xs))
    here = found-queue links (queue_of triggers o.side o.trigger) ends (stops_of_trigger o.side o.trigger xs) f (h.queues o.side o.trigger)

    pub lacks : (key : ℕ) → get entries key ≡ None → LacksKey links ends key
    lacks key vacant = record { keys = keys_in (stops_of_trigger o.side o.trigger xs); queue = here; absent = vacant-key (is_of_trigger o.side o.trigger) key vacant }

    pub apart : (s : Side) (p : ℕ) → is_same_place s p o.side o.trigger ≡ false → AreApart (keys_in (stops_of_trigger o.side o.trigger xs)) (keys_in (stops_of_trigger s p xs))
    apart s p off n a b =
        let y = has-stop (is_of_trigger o.side o.trigger) n a in
        let z = has-stop (is_of_trigger s p) n b in
        let one : Some (listed_entry y.0) ≡ Some (listed_entry z.0) = sym y.4 ∙ ap (get entries) (y.3 ∙ sym z.3) ∙ z.4 in
        let same : y.0.item ≡ z.0.item = ap (λ (e : Entry Stop). e.item) (same_some one) in
        let i = is-at o.side o.trigger y.0.item y.2 in
        let j = is-at s p z.0.item z.2 in
        let at : IsAt s p o = record {
          side = j.side ∙ sym (ap (λ (w : Stop). w.side) same) ∙ sym i.side;
          trigger = j.trigger ∙ sym (ap (λ (w : Stop). w.trigger) same) ∙ sym i.trigger;
        } in
        absurd (false≢true (sym off ∙ at-itself s p o at))

    module _ (time key : ℕ) (vacant : get entries key ≡ None) (entries' : SlotsView Stop) (u : Updates entries entries' key (Some (record { item = o; time = time }))) (len : used entries' ≡ used entries + 1)
        (cap : entries'.capacity ≡ entries.capacity) (links' : List Link) (ends' : Ends) (last : (keys : List ℕ) → IsQueue links ends keys → IsQueue links' ends' (keys ++ key ∷ []))
        (others : (other : Ends) (keys keys' : List ℕ) → IsQueue links ends keys → IsQueue links other keys' → AreApart keys keys' → (Contains keys' key → ⊥) → IsQueue links' other keys')
        (limit : key_limit links' ≡ key_limit links) (triggers' : TriggerQueues A)
        (puts : (s : Side) (p : ℕ) → queue_of triggers' s p ≡ (if is_same_place s p o.side o.trigger then Some ends' else queue_of triggers s p))
        (placed : HasItsTrigger triggers o) (kept-triggers : (s : Side) (p : ℕ) → HasTrigger triggers s p → HasTrigger triggers' s p) where
      abbrev x : Listed Stop
      x = record { key = key; time = time; item = o }

      abbrev ms : List (Listed Stop)
      ms = stops_of_trigger o.side o.trigger xs

      longer : IsQueueOf links' ends' (ms ++ x ∷ [])
      longer = record {
        queue = subst (λ (ks : List ℕ). IsQueue links' ends' ks) (sym (map-append (λ (y : Listed Stop). y.key) ms (x ∷ []))) (last (keys_in ms) here);
        some = omega (arith, length-append ms (x ∷ []));
      }

      module _ (s : Side) (p : ℕ) where
        pushed : stops_of_trigger s p (xs ++ x ∷ []) ≡ stops_of_trigger s p xs ++ (if is_same_place s p o.side o.trigger then x ∷ [] else [])
        pushed = filter-append (is_of_trigger s p) xs (x ∷ [])

        kept : is_same_place s p o.side o.trigger ≡ false → (l : Option Ends) → HoldsQueue links l (stops_of_trigger s p xs) → HoldsQueue links' l (stops_of_trigger s p xs)
        kept off None e = e
        kept off (Some l) e = record { queue = others l (keys_in ms) (keys_in (stops_of_trigger s p xs)) here e.queue (apart s p off) (vacant-key (is_of_trigger s p) key vacant); some = e.some }

        holds_if : (b : Bool) → is_same_place s p o.side o.trigger ≡ b → HoldsQueue links' (if b then Some ends' else queue_of triggers s p) (stops_of_trigger s p xs ++ (if b then x ∷ [] else []))
        holds_if true t =
            let at = is-at s p o t in
            subst (λ (ys : List (Listed Stop)). IsQueueOf links' ends' (ys ++ x ∷ [])) (λ i. stops_of_trigger (sym at.side i) (sym at.trigger i) xs) longer
        holds_if false t =
            subst (λ (ys : List (Listed Stop)). HoldsQueue links' (queue_of triggers s p) ys) (sym (append-nil (stops_of_trigger s p xs))) (kept t (queue_of triggers s p) (h.queues s p))

        holds : HoldsQueue links' (queue_of triggers' s p) (stops_of_trigger s p (xs ++ x ∷ []))
        holds = subst (λ (l : Option Ends). HoldsQueue links' l (stops_of_trigger s p (xs ++ x ∷ []))) (sym (puts s p))
            (subst (λ (ys : List (Listed Stop)). HoldsQueue links' (if is_same_place s p o.side o.trigger then Some ends' else queue_of triggers s p) ys) (sym pushed) (holds_if (is_same_place s p o.side o.trigger) refl))

      lie-old : All (LiesAt entries') xs
      lie-old = λ i d lt. (let y = get_or xs i d in let old = h.lie i d lt in u.others y.key (λ same. some_none (sym old ∙ ap (get entries) same ∙ vacant)) ∙ old)

      abbrev Placed : Listed Stop → Type 0
      Placed y = HasItsTrigger triggers' y.item

      pub joined : AreStopsQueued (xs ++ x ∷ []) entries' links' triggers'
      joined = record {
        lie = All-append (LiesAt entries') xs (x ∷ []) lie-old (All-cons (LiesAt entries') x [] u.changed (All-nil (LiesAt entries')));
        distinct = subst AreDistinct (sym (map-append (λ (y : Listed Stop). y.key) xs (x ∷ []))) (distinct-push key (keys_in xs) h.distinct (λ c. (let made = IsMade-map (λ (y : Listed Stop). y.key) xs key c in some_none (sym (All-contains (LiesAt entries) xs made.from h.lie made.contains) ∙ ap (get entries) made.made ∙ vacant))));
        count = omega (arith, len, h.count, length-append xs (x ∷ []));
        placed = All-append Placed xs (x ∷ []) (λ i d lt. placed-kept triggers triggers' kept-triggers (get_or xs i d).item (h.placed i d lt))
            (All-cons Placed x [] (placed-kept triggers triggers' kept-triggers o placed) (All-nil Placed));
        queues = holds;
        fits = omega (arith, cap, limit, h.fits);
      }

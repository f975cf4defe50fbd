-- The names of the held stops still lead to their keys, as these stops and what is reserved change.
use Rattle.xm_stops.specs.Listing.{stop_owner, stop_reference}
use Rattle.xm_slots.proofs.Naming.{IsNamedAt, find-map, items-kept, key_of-others, key_of-push, left-by-key, left-without, name-once, named-at, named-is, not-named, nothing-of, others, own_names-kept, own_names-push}
use Rattle.xm_slots.specs.Naming.{has_name, have_own_names, key_by_name}
use Rattle.std.proofs.Common.{◌≡◌, ℕ, ◌+◌, ◌-◌, Bool, true, false, not, ◌&&◌, ◌==◌, if◌then◌else◌, List, [], ◌∷◌, ◌++◌, length, map, filter, find, Contains, Option, Some, None, option_map, refl, sym, ap, ◌∙◌, subst, arith}
use Rattle.std.specs.List.{list_any}
use Rattle.std.proofs.lemmas.Bool.Decides.{nat_tests}
use Rattle.std.proofs.lemmas.List.{length-map, map-append}
use Rattle.xm_name_index.specs.Names.{NamesOfMember, lookup, reserved}
use Rattle.xm_queues.specs.Keys.{AreDistinct}
use Rattle.xm_rules.specs.Orders.{is_stop_named, removed_stop, without_stops_of}
use Rattle.xm_rules.specs.declared.orders.Stop.{Stop}
use Rattle.xm_stops.specs.HeldStops.{HeldStops}
use Rattle.xm_stops.specs.Indexed.{AreStopsIndexed, names_ready}
use Rattle.xm_slots.specs.Listing.{is_other_key, keys_in, listed_entry, listed_item}
use Rattle.xm_stops.specs.Queued.{QueuedStops}
use Rattle.xm_slots.specs.declared.entry.Entry.{Entry}
use Rattle.xm_slots.specs.declared.listing.Listed.{Listed}
use Rattle.xm_slots.proofs.Leaving.{one-less}
use Rattle.xm_slots.proofs.Members.{Contains-map, IsMade, IsMade-map, find-Some, find-only}
use Rattle.xm_slots.proofs.Tests.{none-found, some-found}

-- what is seen of the stops in these queues
abbrev pub seen : QueuedStops → HeldStops
seen q = record { stops = map listed_item q.stops; ready = q.ready }

-- no name
pub nothing-indexed : (names : List (ℕ × NamesOfMember)) → ((m r : ℕ) → lookup names m r ≡ None) → ((m : ℕ) → reserved names m ≡ 0) → AreStopsIndexed (record { stops = []; ready = None; adds = 0 }) names
nothing-indexed names none empty = record { named = λ m r. none m r; names_reserved = λ m. empty m; own = refl }

pub named-itself : (o : Stop) → is_stop_named o.member o.reference o ≡ true
named-itself o = grind (arith, nat_tests)

-- a stop's name takes what was reserved for it, whether it is the member's or not
joined-reserved : (its : Bool) (before after : ℕ) → before ≡ (if its then 1 else 0) → after ≡ (if its then before - 1 else before) → after ≡ 0
joined-reserved true before after e f = omega (arith, e, f)
joined-reserved false before after e f = omega (arith, e, f)

module _ (q : QueuedStops) (names : List (ℕ × NamesOfMember)) (h : AreStopsIndexed q names) where
  abbrev os : List Stop
  os = map listed_item q.stops

  -- a name that no stop has leads nowhere
  pub absent : (member reference : ℕ) → list_any (is_stop_named member reference) os ≡ false → lookup names member reference ≡ None
  absent member reference out = by_find (lookup names member reference) (h.named member reference)
    where
      by_find : (o : Option ℕ) → o ≡ key_by_name stop_owner stop_reference member reference q.stops → o ≡ None
      by_find None e = refl
      by_find (Some key) e =
          let at = named-at stop_owner stop_reference member reference key q.stops (sym e) in
          let there = some-found (is_stop_named member reference) os at.listed.item (find-map stop_owner stop_reference member reference q.stops ∙ ap (option_map listed_item) at.found) in
          absurd (let k : true ≡ false = sym there ∙ out in cc)

  -- ---- a stop joins
  module _ (o : Stop) (time key : ℕ) (q' : QueuedStops) (push : q' ≡ record { stops = q.stops ++ record { key = key; time = time; item = o } ∷ []; ready = None; adds = q.adds + 1 }) where
    abbrev x : Listed Stop
    x = record { key = key; time = time; item = o }

    joined : map listed_item (q.stops ++ x ∷ []) ≡ os ++ o ∷ []
    joined = map-append listed_item q.stops (x ∷ [])

    pub seen-joined : seen q' ≡ record { stops = os ++ o ∷ []; ready = None }
    seen-joined = ap seen push ∙ (λ i. record { stops = joined i; ready = None })

    pub stop-joined : list_any (is_stop_named o.member o.reference) os ≡ false → q.ready ≡ Some o → (names' : List (ℕ × NamesOfMember))
        → ((m r : ℕ) → lookup names' m r ≡ (if (m == o.member) && (r == o.reference) then Some key else lookup names m r))
        → ((m : ℕ) → reserved names' m ≡ (if m == o.member then reserved names m - 1 else reserved names m)) → AreStopsIndexed q' names'
    stop-joined out ready names' put less = subst (λ (v : QueuedStops). AreStopsIndexed v names') (sym push) (record {
      named = λ m r. put m r ∙ ap (λ (k : Option ℕ). if (m == o.member) && (r == o.reference) then Some key else k) (h.named m r) ∙ sym (key_of-push stop_owner stop_reference m r q.stops x out);
      names_reserved = λ m. joined-reserved (m == o.member) (reserved names m) (reserved names' m) (h.names_reserved m ∙ ap (λ (r : Option Stop). names_ready r m) ready) (less m);
      own = ap (have_own_names stop_owner stop_reference) joined ∙ own_names-push stop_owner stop_reference os o out h.own;
    })

  -- ---- a name that leads nowhere
  pub unnamed : (member reference : ℕ) → None ≡ lookup names member reference → find (is_stop_named member reference) os ≡ None
  unnamed member reference e = not-named stop_owner stop_reference member reference q.stops (sym (e ∙ h.named member reference))

  pub unknown : (member reference : ℕ) → None ≡ lookup names member reference → list_any (is_stop_named member reference) os ≡ false
  unknown member reference e = none-found (is_stop_named member reference) os (unnamed member reference e)

  pub nothing-of-member : (member : ℕ) → ((r : ℕ) → lookup names member r ≡ None) → without_stops_of member os ≡ os
  nothing-of-member member none = nothing-of stop_owner stop_reference member os (λ r. unnamed member r (sym (none r)))

  -- ---- the name of a stop
  pub its-name : (x : Listed Stop) → Contains q.stops x → Some x.key ≡ lookup names x.item.member x.item.reference
  its-name x there = sym (h.named x.item.member x.item.reference ∙ ap (option_map (λ (y : Listed Stop). y.key)) found)
    where
      found : find (has_name stop_owner stop_reference x.item.member x.item.reference) q.stops ≡ Some x
      found = find-only (has_name stop_owner stop_reference x.item.member x.item.reference) q.stops x (record { contains = there; passes = named-itself x.item })
          (λ z at named. name-once stop_owner stop_reference x.item.member x.item.reference q.stops x z h.own there at (named-itself x.item) named)

  -- ---- the stop of a name
  module _ (member reference key : ℕ) (e : Some key ≡ lookup names member reference) where
    pub at : IsNamedAt stop_owner stop_reference member reference key q.stops
    at = named-at stop_owner stop_reference member reference key q.stops (sym (e ∙ h.named member reference))

    pub contains : Contains q.stops at.listed
    contains = (find-Some (has_name stop_owner stop_reference member reference) q.stops at.listed at.found).contains

    pub key-there : Contains (keys_in q.stops) key
    key-there = subst (λ (n : ℕ). Contains (keys_in q.stops) n) at.key_is (Contains-map (λ (x : Listed Stop). x.key) q.stops at.listed contains)

    found-stop : find (is_stop_named member reference) os ≡ Some at.listed.item
    found-stop = find-map stop_owner stop_reference member reference q.stops ∙ ap (option_map listed_item) at.found

    -- what its queue answers for its key
    pub entry-found : (e : Option (Entry Stop)) → ((x : Listed Stop) → Contains q.stops x → x.key ≡ key → e ≡ Some (listed_entry x)) → option_map (λ (e : Entry Stop). e.item) e ≡ find (is_stop_named member reference) os
    entry-found e answer = ap (option_map (λ (e : Entry Stop). e.item)) (answer at.listed contains at.key_is) ∙ sym found-stop

    -- the entry that its queue gives up for its key
    pub stop-found : (e : Entry Stop) → ((x : Listed Stop) → Contains q.stops x → x.key ≡ key → e ≡ listed_entry x) → Some e.item ≡ find (is_stop_named member reference) os
    stop-found e answer = ap (λ (e : Entry Stop). Some e.item) (answer at.listed contains at.key_is) ∙ sym found-stop

    -- and that bears the name
    module _ (taken : Entry Stop) (answer : (x : Listed Stop) → Contains q.stops x → x.key ≡ key → taken ≡ listed_entry x) where
      reference-is : taken.item.reference ≡ reference
      reference-is = (named-is stop_owner stop_reference member reference taken.item (find-Some (is_stop_named member reference) os taken.item (sym (stop-found taken answer))).passes).1

      pub found-by-reference : find (is_stop_named member taken.item.reference) os ≡ Some taken.item
      found-by-reference = ap (λ (r : ℕ). find (is_stop_named member r) os) reference-is ∙ sym (stop-found taken answer)

      pub removed-by-reference : removed_stop member reference os ≡ removed_stop member taken.item.reference os
      removed-by-reference = ap (λ (r : ℕ). removed_stop member r os) (sym reference-is)

    -- it leaves
    module _ (distinct : AreDistinct (keys_in q.stops)) (q' : QueuedStops) (left : q' ≡ record q { stops = filter (is_other_key key) q.stops }) where
      by-name : filter (is_other_key key) q.stops ≡ filter (others stop_owner stop_reference member reference) q.stops
      by-name = ap (λ (n : ℕ). filter (is_other_key n) q.stops) (sym at.key_is) ∙ left-by-key stop_owner stop_reference member reference q.stops at.listed distinct h.own at.found

      stops-left : map listed_item (filter (others stop_owner stop_reference member reference) q.stops) ≡ removed_stop member reference os
      stops-left = items-kept (λ (o : Stop). not (is_stop_named member reference o)) q.stops

      left-is : q' ≡ record q { stops = filter (others stop_owner stop_reference member reference) q.stops }
      left-is = left ∙ (λ i. record q { stops = by-name i })

      -- what is seen of the stops
      pub seen-left : seen q' ≡ record (seen q) { stops = removed_stop member reference os }
      seen-left = ap seen left-is ∙ (λ i. record (seen q) { stops = stops-left i })

      pub member-left : without_stops_of member (map listed_item q'.stops) ≡ without_stops_of member os
      member-left = ap (λ (t : HeldStops). without_stops_of member t.stops) seen-left ∙ left-without stop_owner stop_reference member reference os

      pub one-fewer : length (map listed_item q'.stops) + 1 ≡ length os
      one-fewer =
          omega (
            arith,
            ap (λ (v : QueuedStops). length v.stops) left,
            ap (λ (n : ℕ). length (filter (is_other_key n) q.stops)) (sym at.key_is),
            one-less at.listed q.stops distinct contains,
            length-map q'.stops listed_item,
            length-map q.stops listed_item,
          )

      pub stop-left : (names' : List (ℕ × NamesOfMember)) → ((m r : ℕ) → lookup names' m r ≡ (if (m == member) && (r == reference) then None else lookup names m r)) → ((m : ℕ) → reserved names' m ≡ reserved names m)
          → AreStopsIndexed q' names'
      stop-left names' out same = subst (λ (v : QueuedStops). AreStopsIndexed v names') (sym left-is) (record {
        named = λ m r. out m r ∙ ap (λ (k : Option ℕ). if (m == member) && (r == reference) then None else k) (h.named m r) ∙ sym (key_of-others stop_owner stop_reference member reference m r q.stops);
        names_reserved = λ m. same m ∙ h.names_reserved m;
        own = ap (have_own_names stop_owner stop_reference) stops-left ∙ own_names-kept stop_owner stop_reference (λ (o : Stop). not (is_stop_named member reference o)) os h.own;
      })

  -- the stop of a key leaves with its name
  pub stop-taken : (key : ℕ) → Contains (keys_in q.stops) key → (taken : Entry Stop) → ((x : Listed Stop) → Contains q.stops x → x.key ≡ key → taken ≡ listed_entry x) → AreDistinct (keys_in q.stops)
      → (q' : QueuedStops) → q' ≡ record q { stops = filter (is_other_key key) q.stops } → (names' : List (ℕ × NamesOfMember))
      → ((m r : ℕ) → lookup names' m r ≡ (if (m == taken.item.member) && (r == taken.item.reference) then None else lookup names m r)) → ((m : ℕ) → reserved names' m ≡ reserved names m) → AreStopsIndexed q' names'
  stop-taken key at taken is distinct q' left names' out same = stop-left taken.item.member taken.item.reference key name distinct q' left names' out same
    where
      made : IsMade (λ (x : Listed Stop). x.key) q.stops key
      made = IsMade-map (λ (x : Listed Stop). x.key) q.stops key at

      name : Some key ≡ lookup names taken.item.member taken.item.reference
      name =
          ap (λ (n : ℕ). Some n) (sym made.made) ∙ its-name made.from made.contains
          ∙ ap (λ (e : Entry Stop). lookup names e.item.member e.item.reference) (sym (is made.from made.contains made.made))

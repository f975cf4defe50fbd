-- The reached stops are taken one after another, and then stand behind the pending ones in order of entry.
use Rattle.xm_slots.proofs.Naming.{items-kept, keeps}
use Rattle.xm_slots.proofs.Leaving.{distinct-kept, others-pass, filters, one-less, key-once}
use Rattle.std.proofs.Common.{◌≡◌, ℕ, suc, ◌+◌, ◌-◌, ◌<◌, ◌≤◌, Bool, true, false, not, ◌==◌, if◌then◌else◌, List, [], ◌∷◌, ◌++◌, length, map, filter, take, drop, Contains, refl, sym, ap, ◌∙◌, subst, ◌⊎◌, inl, inr, arith}
use Rattle.std.specs.List.Sorted.{IsPermutation}
use Rattle.std.proofs.lemmas.Bool.{eqb-true}
use Rattle.std.proofs.lemmas.List.{append-nil, append_assoc, length-append, length-map, map-append}
use Rattle.std.proofs.Math.Seq.{drop-append_seam, take-append_seam}
use Rattle.std.proofs.lemmas.List.Elements.{Contains-append_left, Contains-push}
use Rattle.std.proofs.lemmas.List.Sorted.{Contains-permutation, length_permutation}
use Rattle.xm_queues.specs.Keys.{AreDistinct}
use Rattle.xm_rules.specs.declared.orders.Stop.{Stop}
use Rattle.xm_stops.specs.Drained.{IsDrained}
use Rattle.xm_stops.specs.HeldStops.{PendingStops}
use Rattle.xm_slots.specs.Listing.{is_other_key, keys_in, listed_entry, listed_item, rises, stays, time_of}
use Rattle.xm_stops.specs.Pending.{EntriesView, IsSortedBehind, entries_that, stop_of_entry}
use Rattle.xm_stops.specs.Queued.{IsPassedAt, QueuedStops}
use Rattle.xm_slots.specs.declared.entry.Entry.{Entry}
use Rattle.xm_slots.specs.declared.listing.Listed.{Listed}
use Rattle.xm_slots.proofs.Rising.{IsRising, sorted-same}
use Rattle.xm_slots.proofs.InTime.{times-rise}
use Rattle.xm_slots.proofs.Keeping.{rises-kept}
use Rattle.xm_slots.proofs.Tests.{length-kept}
use Rattle.xm_slots.proofs.Members.{Contains-filter, Contains-map, Contains-none, IsMade, IsMade-map, Passes-filter}

-- at first none is taken
pub none-drained : (leaves : Listed Stop → Bool) (q : QueuedStops) (pending : EntriesView) → IsDrained leaves q q pending pending
none-drained leaves q pending = record {
  rest = refl;
  held = refl;
  taken = [];
  behind = sym (append-nil pending.entries);
  room = omega arith;
  gone = refl;
  counted = omega arith;
  each = λ e at. inl at;
}

-- the key of a stop that passes a test
pub key-passed : (test : Listed Stop → Bool) (xs : List (Listed Stop)) (key : ℕ) → IsPassedAt test xs key → Contains (keys_in xs) key
key-passed test xs key at = subst (λ (n : ℕ). Contains (keys_in xs) n) at.key_is (Contains-map (λ (x : Listed Stop). x.key) xs at.listed at.contains)

-- one more is taken
module _ (leaves : Listed Stop → Bool) (old q q' : QueuedStops) (pending p p' : EntriesView) (x : Listed Stop) (at : Contains q.stops x) (reached : leaves x ≡ true) (distinct : AreDistinct (keys_in q.stops))
    (left : q' ≡ record q { stops = filter (is_other_key x.key) q.stops }) (some : 0 < p.room) (push : p' ≡ record p { entries = p.entries ++ listed_entry x ∷ []; room = p.room - 1 }) (h : IsDrained leaves old q pending p) where
  abbrev stops : List (Listed Stop)
  stops = filter (is_other_key x.key) q.stops

  abbrev hits : List (Listed Stop)
  hits = filter leaves q.stops

  stops-are : q'.stops ≡ stops
  stops-are = ap (λ (v : QueuedStops). v.stops) left

  same-held : filter (stays leaves) stops ≡ filter (stays leaves) q.stops
  same-held = others-pass (stays leaves) q.stops x distinct at (ap not reached)

  in-hits : Contains hits x
  in-hits = Contains-filter leaves q.stops x reached at

  hits-left : filter leaves stops ≡ filter (is_other_key x.key) hits
  hits-left = filters leaves (is_other_key x.key) q.stops

  one-less-hit : length (filter leaves stops) + 1 ≡ length hits
  one-less-hit = omega (arith, ap length hits-left, one-less x hits (distinct-kept leaves q.stops distinct) in-hits)

  still : (e : Entry Stop) → Contains (entries_that leaves q.stops) e → Contains (entries_that leaves q'.stops) e ⊎ (listed_entry x ≡ e)
  still e c = by_key (made.from.key == x.key) refl
    where
      made : IsMade listed_entry hits e
      made = IsMade-map listed_entry hits e c

      by_key : (b : Bool) → (made.from.key == x.key) ≡ b → Contains (entries_that leaves q'.stops) e ⊎ (listed_entry x ≡ e)
      by_key true t =
          let from = (Passes-filter leaves q.stops made.from made.contains).contains in
          let same : made.from ≡ x = key-once q.stops x made.from distinct at from (eqb-true made.from.key x.key t) in
          inr (ap listed_entry (sym same) ∙ made.made)
      by_key false t =
          let kept : Contains (filter (is_other_key x.key) hits) made.from = Contains-filter (is_other_key x.key) hits made.from (ap not t) made.contains in
          let in-left = subst (λ (xs : List (Listed Stop)). Contains xs made.from) (sym hits-left ∙ ap (filter leaves) (sym stops-are)) kept in
          inl (subst (λ (y : Entry Stop). Contains (entries_that leaves q'.stops) y) made.made (Contains-map listed_entry (filter leaves q'.stops) made.from in-left))

  each-one : (e : Entry Stop) → Contains (entries_that leaves old.stops) e → Contains (entries_that leaves q'.stops) e ⊎ Contains (h.taken ++ listed_entry x ∷ []) e
  each-one e c = by_place (h.each e c)
    where
      now_or_here : Contains (entries_that leaves q'.stops) e ⊎ (listed_entry x ≡ e) → Contains (entries_that leaves q'.stops) e ⊎ Contains (h.taken ++ listed_entry x ∷ []) e
      now_or_here (inl m) = inl m
      now_or_here (inr same) = inr (subst (λ (y : Entry Stop). Contains (h.taken ++ listed_entry x ∷ []) y) same (Contains-push h.taken (listed_entry x)))

      by_place : Contains (entries_that leaves q.stops) e ⊎ Contains h.taken e → Contains (entries_that leaves q'.stops) e ⊎ Contains (h.taken ++ listed_entry x ∷ []) e
      by_place (inl m) = now_or_here (still e m)
      by_place (inr t) = inr (Contains-append_left h.taken (listed_entry x ∷ []) e t)

  pub one-drained : IsDrained leaves old q' pending p'
  one-drained = record {
    rest = left ∙ (λ i. record (h.rest i) { stops = sym stops-are i });
    held = ap (filter (stays leaves)) stops-are ∙ same-held ∙ h.held;
    taken = h.taken ++ listed_entry x ∷ [];
    behind = ap (λ (v : EntriesView). v.entries) push ∙ ap (λ (es : List (Entry Stop)). es ++ listed_entry x ∷ []) h.behind ∙ append_assoc pending.entries h.taken (listed_entry x ∷ []);
    room = omega (arith, h.room, some, ap (λ (v : EntriesView). v.room) push, length-append h.taken (listed_entry x ∷ []));
    gone = ap (λ (v : EntriesView). v.gone) push ∙ h.gone;
    counted = omega (arith, h.counted, one-less-hit, ap (λ (xs : List (Listed Stop)). length (filter leaves xs)) stops-are, length-append h.taken (listed_entry x ∷ []));
    each = each-one;
  }

-- there is room for a reached stop
module _ (leaves : Listed Stop → Bool) (old q : QueuedStops) (pending p : EntriesView) (h : IsDrained leaves old q pending p) (key : ℕ) (at : IsPassedAt leaves q.stops key) where
  pub some-room : length old.stops ≤ pending.room → 0 < p.room
  some-room enough =
      let hits = Contains-filter leaves q.stops at.listed at.passes at.contains in
      omega (arith, enough, h.room, h.counted, hits.1, length-kept leaves old.stops)

pub one-fewer : (leaves : Listed Stop → Bool) (q q' : QueuedStops) (key : ℕ) → IsPassedAt leaves q.stops key → AreDistinct (keys_in q.stops) → q' ≡ record q { stops = filter (is_other_key key) q.stops } → suc (length q'.stops) ≤ length q.stops
one-fewer leaves q q' key at distinct left =
    omega (arith, ap (λ (v : QueuedStops). length v.stops) left, ap (λ (n : ℕ). length (filter (is_other_key n) q.stops)) at.key_is, one-less at.listed q.stops distinct at.contains)

all-left : (p : Listed Stop → Bool) (xs : List (Listed Stop)) → filter p xs ≡ [] → filter (λ (x : Listed Stop). not (p x)) xs ≡ xs
all-left p [] h = refl
all-left p (x ∷ xs) h = left_if (p x) h (all-left p xs)
  where
    left_if : (b : Bool) → (if b then x ∷ filter p xs else filter p xs) ≡ [] → (filter p xs ≡ [] → filter (λ (y : Listed Stop). not (p y)) xs ≡ xs)
        → (if not b then x ∷ filter (λ (y : Listed Stop). not (p y)) xs else filter (λ (y : Listed Stop). not (p y)) xs) ≡ x ∷ xs
    left_if true e rest = absurd (omega (arith, ap length e))
    left_if false e rest = ap (λ (ys : List (Listed Stop)). x ∷ ys) (rest e)

-- where none leaves, all are held, and those that are pending stay as they are
module _ (leaves : Listed Stop → Bool) (q : QueuedStops) (none : filter leaves q.stops ≡ []) where
  pub held-all : q ≡ record q { stops = filter (stays leaves) q.stops }
  held-all = (λ i. record q { stops = sym (all-left leaves q.stops none) i })

  pub pending-same : (p : EntriesView) → (p.entries ≡ p.entries ++ entries_that leaves q.stops) × (p.room ≡ p.room - length (entries_that leaves q.stops))
  pending-same p =
      let empty : entries_that leaves q.stops ≡ [] = ap (map listed_entry) none in
      (sym (append-nil p.entries) ∙ ap (λ (es : List (Entry Stop)). p.entries ++ es) (sym empty), omega (arith, ap length empty))

-- none is left that is reached
module _ (leaves : Listed Stop → Bool) (old q : QueuedStops) (pending p : EntriesView) (h : IsDrained leaves old q pending p) (all : filter leaves q.stops ≡ []) where
  pub held-left : q ≡ record old { stops = filter (stays leaves) old.stops }
  held-left = h.rest ∙ (λ i. record old { stops = (sym (all-left leaves q.stops all) ∙ h.held) i })

  taken-all : length h.taken ≡ length (entries_that leaves old.stops)
  taken-all = omega (arith, h.counted, ap length all, length-map (filter leaves old.stops) listed_entry)

  module _ (rise : rises 0 old.stops old.adds ≡ true) (p' : EntriesView) (room : p'.room ≡ p.room) (s : IsSortedBehind (length pending.entries) p.entries p'.entries) where
    same-taken : IsPermutation h.taken s.behind
    same-taken = subst (λ (es : List (Entry Stop)). IsPermutation es s.behind) (ap (drop (length pending.entries)) h.behind ∙ drop-append_seam pending.entries h.taken) s.same

    rising : IsRising time_of (entries_that leaves old.stops)
    rising = times-rise 0 old.adds (filter leaves old.stops) (rises-kept leaves 0 old.stops old.adds rise)

    each-behind : (e : Entry Stop) → Contains (entries_that leaves old.stops) e → Contains s.behind e
    each-behind e c = by_place (h.each e c)
      where
        by_place : Contains (entries_that leaves q.stops) e ⊎ Contains h.taken e → Contains s.behind e
        by_place (inl m) = absurd (Contains-none e (subst (λ (xs : List (Listed Stop)). Contains (map listed_entry xs) e) all m))
        by_place (inr t) = Contains-permutation h.taken s.behind e same-taken t

    in-order : s.behind ≡ entries_that leaves old.stops
    in-order = sorted-same time_of s.behind (entries_that leaves old.stops) rising s.sorted each-behind (omega (arith, taken-all, length_permutation h.taken s.behind same-taken))

    pub entries-pending : p'.entries ≡ pending.entries ++ entries_that leaves old.stops
    entries-pending = s.kept ∙ (λ i. take-kept i ++ in-order i)
      where
        take-kept : take (length pending.entries) p.entries ≡ pending.entries
        take-kept = ap (take (length pending.entries)) h.behind ∙ take-append_seam pending.entries h.taken

stops-that : (test : Stop → Bool) (xs : List (Listed Stop)) → map stop_of_entry (entries_that (keeps test) xs) ≡ filter test (map listed_item xs)
stops-that test xs = same (filter (keeps test) xs) ∙ items-kept test xs
  where
    same : (ys : List (Listed Stop)) → map stop_of_entry (map listed_entry ys) ≡ map listed_item ys
    same [] = refl
    same (y ∷ ys) = ap (λ (ss : List Stop). y.item ∷ ss) (same ys)

-- what is seen of the pending ones
abbrev pub seen_of : EntriesView → PendingStops
seen_of p = record { stops = map stop_of_entry p.entries; gone = map stop_of_entry p.gone; room = p.room }

pub seen-pending : (test : Stop → Bool) (q : QueuedStops) (p p' : EntriesView) → p'.entries ≡ p.entries ++ entries_that (keeps test) q.stops → p'.room ≡ p.room - length (entries_that (keeps test) q.stops) → p'.gone ≡ p.gone
    → seen_of p' ≡ record { stops = map stop_of_entry p.entries ++ filter test (map listed_item q.stops); gone = map stop_of_entry p.gone; room = p.room - length (filter test (map listed_item q.stops)) }
seen-pending test q p p' entries room gone = (λ i. record { stops = stops i; gone = map stop_of_entry (gone i); room = rooms i })
  where
    stops : map stop_of_entry p'.entries ≡ map stop_of_entry p.entries ++ filter test (map listed_item q.stops)
    stops = ap (map stop_of_entry) entries ∙ map-append stop_of_entry p.entries (entries_that (keeps test) q.stops) ∙ ap (λ (ss : List Stop). map stop_of_entry p.entries ++ ss) (stops-that test q.stops)

    rooms : p'.room ≡ p.room - length (filter test (map listed_item q.stops))
    rooms = room ∙ ap (λ (n : ℕ). p.room - n) (sym (length-map (entries_that (keeps test) q.stops) stop_of_entry) ∙ ap length (stops-that test q.stops))

-- the stop of a key leaves, and its entry becomes pending
pub drained-more : (leaves : Listed Stop → Bool) (old q q' : QueuedStops) (pending p p' : EntriesView) (key : ℕ) (at : IsPassedAt leaves q.stops key) → AreDistinct (keys_in q.stops)
    → q' ≡ record q { stops = filter (is_other_key key) q.stops } → 0 < p.room
    → ((x : Listed Stop) → Contains q.stops x → x.key ≡ key → p' ≡ record p { entries = p.entries ++ listed_entry x ∷ []; room = p.room - 1 }) → IsDrained leaves old q pending p → IsDrained leaves old q' pending p'
drained-more leaves old q q' pending p p' key at distinct left some push h =
    one-drained leaves old q q' pending p p' at.listed at.contains at.passes distinct (left ∙ (λ i. record q { stops = filter (is_other_key (sym at.key_is i)) q.stops })) some
    (push at.listed at.contains at.key_is) h

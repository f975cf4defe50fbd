-- A held stop that leaves is one place less.
use Rattle.xm_stops.specs.Listing.{stop_owner, stop_reference}
use Rattle.xm_slots.specs.Naming.{have_own_names}
use Rattle.std.proofs.Common.{◌≡◌, ◌∙◌, ℕ, ◌+◌, Bool, true, false, ◌||◌, not, cond, List, [], ◌∷◌, ◌++◌, find, length, sum_by, Option, Some, None, refl, sym, ap, arith}
use Rattle.std.specs.List.{list_any, slice_get}
use Rattle.std.proofs.lemmas.Bool.{and_parts, eqb-true}
use Rattle.std.proofs.lemmas.List.{length-append}
use Rattle.std.proofs.lemmas.List.Sums.{sum_by-append, sum_by-cons}
use Rattle.xm_book.proofs.Reserving.{any-counted, same_place-self}
use Rattle.xm_book.specs.Places.{same_place}
use Rattle.xm_book.specs.TimeList.{TimeList}
use Rattle.xm_desk.proofs.Frames.{counted, first-is, one}
use Rattle.xm_desk.specs.Frame.{IsFramed}
use Rattle.xm_desk.specs.Settled.{place_of_stop, places_in}
use Rattle.xm_desk.specs.declared.unsettled.Ready.{Ready}
use Rattle.xm_rules.specs.Orders.{is_stop_named, removed_stop}
use Rattle.xm_rules.specs.declared.orders.Stop.{Stop}
use Rattle.xm_stops.specs.HeldStops.{HeldStops, PendingStops}
use Rattle.std.specs.Prelude.{drop}

-- a list with the stop, and without it
pub record IsTaken (stop : Stop) (stops left : List Stop) : Type 0 where
  pub ahead : List Stop
  pub behind : List Stop
  pub was : stops ≡ ahead ++ stop ∷ behind
  pub now : left ≡ ahead ++ behind

left_if : (stop : Stop) (stops : List Stop) (b : Bool) → b ≡ false → cond (not b) (stop ∷ stops) stops ≡ stop ∷ stops
left_if stop stops true e = cc
left_if stop stops false e = refl

either_none : (a b : Bool) → (a || b) ≡ false → (a ≡ false) × (b ≡ false)
either_none true b e = cc
either_none false b e = (refl, e)

-- where no stop has the name, none is removed
pub removed-none : (m r : ℕ) (stops : List Stop) → list_any (is_stop_named m r) stops ≡ false → removed_stop m r stops ≡ stops
removed-none m r [] e = refl
removed-none m r (stop ∷ stops) e =
    let parts = either_none (is_stop_named m r stop) (list_any (is_stop_named m r) stops) e in
    left_if stop (removed_stop m r stops) (is_stop_named m r stop) parts.0 ∙ ap (λ (ss : List Stop). stop ∷ ss) (removed-none m r stops parts.1)

unfound_if : (stop : Stop) (b more : Bool) (found : Option Stop) → cond b (Some stop) found ≡ None → (found ≡ None → more ≡ false) → (b || more) ≡ false
unfound_if stop true more found e rest = cc
unfound_if stop false more found e rest = rest e

unnamed : (m r : ℕ) (stops : List Stop) → find (is_stop_named m r) stops ≡ None → list_any (is_stop_named m r) stops ≡ false
unnamed m r [] e = refl
unnamed m r (stop ∷ stops) e = unfound_if stop (is_stop_named m r stop) (list_any (is_stop_named m r) stops) (find (is_stop_named m r) stops) e (unnamed m r stops)

-- where none is found by a name, none is removed
pub not-found : (m r : ℕ) (stops : List Stop) → find (is_stop_named m r) stops ≡ None → removed_stop m r stops ≡ stops
not-found m r stops e = removed-none m r stops (unnamed m r stops e)

not_true : (b : Bool) → not b ≡ true → b ≡ false
not_true true e = cc
not_true false e = refl

own_name : (m r : ℕ) (stop : Stop) → is_stop_named m r stop ≡ true → (stop.member ≡ m) × (stop.reference ≡ r)
own_name m r stop e =
    let parts = and_parts (Rattle.std.specs.Prelude.nat_eq stop.member m) (Rattle.std.specs.Prelude.nat_eq stop.reference r) e in
    (eqb-true stop.member m parts.0, eqb-true stop.reference r parts.1)

taken_if : (m r : ℕ) (x stop : Stop) (xs : List Stop) (b : Bool) → is_stop_named m r x ≡ b → have_own_names stop_owner stop_reference (x ∷ xs) ≡ true
    → (find (is_stop_named m r) xs ≡ Some stop → IsTaken stop xs (removed_stop m r xs)) → cond b (Some x) (find (is_stop_named m r) xs) ≡ Some stop
    → IsTaken stop (x ∷ xs) (cond (not b) (x ∷ removed_stop m r xs) (removed_stop m r xs))
taken_if m r x stop xs true named own more found =
    let same : x ≡ stop = cc in
    let names = own_name m r x named in
    let others = not_true _ (and_parts (not (list_any (is_stop_named x.member x.reference) xs)) (have_own_names stop_owner stop_reference xs) own).0 in
    record {
      ahead = [];
      behind = xs;
      was = ap (λ (y : Stop). y ∷ xs) same;
      now = removed-none m r xs ((λ i. list_any (is_stop_named (sym names.0 i) (sym names.1 i)) xs) ∙ others);
    }
taken_if m r x stop xs false named own more found =
    let t = more found in
    record { ahead = x ∷ t.ahead; behind = t.behind; was = ap (λ (ss : List Stop). x ∷ ss) t.was; now = ap (λ (ss : List Stop). x ∷ ss) t.now }

-- what is found by its name is taken out by it
pub found-taken : (m r : ℕ) (stops : List Stop) (stop : Stop) → have_own_names stop_owner stop_reference stops ≡ true → find (is_stop_named m r) stops ≡ Some stop → IsTaken stop stops (removed_stop m r stops)
found-taken m r [] stop own found = cc
found-taken m r (x ∷ xs) stop own found =
    let rest = (and_parts (not (list_any (is_stop_named x.member x.reference) xs)) (have_own_names stop_owner stop_reference xs) own).1 in
    taken_if m r x stop xs (is_stop_named m r x) refl own (found-taken m r xs stop rest) found

module _ (stop : Stop) (stops left : List Stop) (taken : IsTaken stop stops left) where
  pub taken-sums : (f : Stop → ℕ) → sum_by f left + f stop ≡ sum_by f stops
  taken-sums f =
      omega (
        arith,
        ap (λ (ss : List Stop). sum_by f ss) taken.was,
        ap (λ (ss : List Stop). sum_by f ss) taken.now,
        sum_by-append f taken.ahead (stop ∷ taken.behind),
        sum_by-append f taken.ahead taken.behind,
        sum_by-cons f stop taken.behind,
      )

  pub taken-length : length left + 1 ≡ length stops
  taken-length =
      omega (
        arith,
        ap (λ (ss : List Stop). length ss) taken.was,
        ap (λ (ss : List Stop). length ss) taken.now,
        length-append taken.ahead (stop ∷ taken.behind),
        length-append taken.ahead taken.behind,
      )

-- the place of a stop is reserved
module _ (accepted : ℕ) (book : TimeList) (held : HeldStops) (pending : PendingStops) (room : ℕ) (ready : Ready) (stop : Stop) (f : IsFramed accepted book held pending room ready) where
  here : one (same_place (place_of_stop stop)) (place_of_stop stop) ≡ (let once : ℕ = 1 in once)
  here = rw (same_place-self (place_of_stop stop)) refl

  pub held-reserved : (left : List Stop) → IsTaken stop held.stops left → list_any (same_place (place_of_stop stop)) book.reserved ≡ true
  held-reserved left taken =
      let are = counted book.reserved held.stops pending.stops (places_in ready) f.reserved in
      any-counted (same_place (place_of_stop stop)) book.reserved
      (omega (arith, are.each (place_of_stop stop), taken-sums stop held.stops left taken (λ (s : Stop). one (same_place (place_of_stop stop)) (place_of_stop s)), here))

  pub pending-reserved : slice_get pending.stops 0 ≡ Some stop → list_any (same_place (place_of_stop stop)) book.reserved ≡ true
  pending-reserved first =
      let are = counted book.reserved held.stops pending.stops (places_in ready) f.reserved in
      let one_at : Stop → ℕ = λ s. one (same_place (place_of_stop stop)) (place_of_stop s) in
      any-counted (same_place (place_of_stop stop)) book.reserved
      (omega (
        arith,
        are.each (place_of_stop stop),
        ap (λ (ss : List Stop). sum_by one_at ss) (first-is pending.stops stop first),
        sum_by-cons one_at stop (drop 1 pending.stops),
        here,
      ))

-- Entries that join one after the other before the day: each is one more, and none has its name.
use Rattle.std.proofs.Common.{◌≡◌, ◌∙◌, ℕ, ◌+◌, ◌<◌, ◌≤◌, Bool, true, false, not, ◌||◌, cond, List, [], ◌∷◌, ◌++◌, take, length, get_or, filter, map, sum_by, count_by, refl, sym, ap, arith}
use Rattle.std.specs.List.{list_any}
use Rattle.std.proofs.lemmas.Bool.Decides.{nat_tests}
use Rattle.std.proofs.lemmas.List.{length-append, length-take, take_more}
use Rattle.std.proofs.lemmas.List.Elements.{filter-append}
use Rattle.std.proofs.lemmas.List.Filters.{length-filter_both}
use Rattle.std.proofs.lemmas.List.Sums.{sum_by-append, sum_by-cons, sum_by_more_le, sum_by_push}
use Rattle.xm_book.proofs.Reserving.{any-counted, counted-cons, same_place-self}
use Rattle.xm_book.specs.Places.{SamePlaces, same_place}
use Rattle.xm_book.specs.declared.places.Place.{Place}
use Rattle.xm_desk.proofs.Frames.{places-counted, places-length}
use Rattle.xm_desk.specs.Frame.{places_of_stops}
use Rattle.xm_desk.specs.Settled.{place_of_stop}
use Rattle.xm_rules.proofs.Orderings.{sum-map}
use Rattle.xm_rules.proofs.SettledSums.{part}
use Rattle.xm_rules.specs.Orders.{is_named, is_stop_named}
use Rattle.xm_rules.specs.Settling.{order_of_stop}
use Rattle.xm_rules.specs.declared.orders.Order.{Order}
use Rattle.xm_rules.specs.declared.orders.Stop.{Stop}

-- ---- one element more that passes a test, and one that doesn't
module _ {X : Type 0} (p : X → Bool) (xs : List X) (i : ℕ) (d : X) (within : i < length xs) where
  filtered-more : filter p (take (i + 1) xs) ≡ filter p (take i xs) ++ cond (p (get_or xs i d)) (get_or xs i d ∷ []) []
  filtered-more = ap (filter p) (take_more xs i d within) ∙ filter-append p (take i xs) (get_or xs i d ∷ [])

  pub passes-more : p (get_or xs i d) ≡ true → filter p (take (i + 1) xs) ≡ filter p (take i xs) ++ get_or xs i d ∷ []
  passes-more e = filtered-more ∙ ap (λ (b : Bool). filter p (take i xs) ++ cond b (get_or xs i d ∷ []) []) e

  pub fails-more : p (get_or xs i d) ≡ false → filter p (take (i + 1) xs) ≡ filter p (take i xs)
  fails-more e = filtered-more ∙ ap (λ (b : Bool). filter p (take i xs) ++ cond b (get_or xs i d ∷ []) []) e ∙ append-nothing (filter p (take i xs)) where
    append-nothing : (ys : List X) → ys ++ [] ≡ ys
    append-nothing [] = refl
    append-nothing (y ∷ ys) = ap (λ zs. y ∷ zs) (append-nothing ys)

pub few-taken : {X : Type 0} (p : X → Bool) (xs : List X) (i : ℕ) → length (filter p (take i xs)) ≤ i
few-taken p xs i = omega (arith, length-filter_both p (λ x. not (p x)) (λ x. refl) (take i xs), length-take i xs)

-- ---- counts
module _ {X : Type 0} (p : X → Bool) where
  abbrev one : X → ℕ
  one x = cond (p x) 1 0

  none_if : (b any : Bool) (n : ℕ) → cond b 1 0 + n ≡ 0 → (n ≡ 0 → any ≡ false) → (b || any) ≡ false
  none_if true any n e none = absurd (omega arith)
  none_if false any n e none = none (omega (arith, e))

  pub none-counted : (xs : List X) → sum_by one xs ≡ 0 → list_any p xs ≡ false
  none-counted [] e = refl
  none-counted (x ∷ xs) e = none_if (p x) (list_any p xs) (sum_by one xs) (sym (sum_by-cons one x xs) ∙ e) (none-counted xs)

  -- where one element alone passes, none of those before it does, also of a part of them
  pub counted-before : (keeps : X → Bool) (xs : List X) (i : ℕ) (d : X) → i < length xs → p (get_or xs i d) ≡ true → sum_by one (filter keeps (take i xs)) + 1 ≤ sum_by one xs
  counted-before keeps xs i d within e =
      let once : ℕ = 1 in
      let here : cond (p (get_or xs i d)) 1 0 ≡ once = ap (λ (b : Bool). cond b 1 0) e in
      omega (arith, here, part one keeps (take i xs), sum_by_more_le one xs i d within)

named-self : (o : Order) → is_named o.member o.reference o ≡ true
named-self o = grind (nat_tests, arith)

stop_named-self : (s : Stop) → is_stop_named s.member s.reference s ≡ true
stop_named-self s = grind (nat_tests, arith)

-- ---- orders
pub order-new : (keeps : Order → Bool) (orders : List Order) (i : ℕ) (d : Order) → i < length orders → ((m r : ℕ) → count_by (is_named m r) orders ≤ 1)
    → (let o = get_or orders i d in list_any (is_named o.member o.reference) (filter keeps (take i orders)) ≡ false)
order-new keeps orders i d within own =
    let o = get_or orders i d in
    let named = is_named o.member o.reference in
    none-counted named (filter keeps (take i orders)) (omega (arith, own o.member o.reference, counted-before named keeps orders i d within (named-self o)))

-- ---- stops, of which some have become orders behind others
module _ (before : List Order) (valid reached : Stop → Bool) (stops : List Stop) (i : ℕ) (d : Stop) (within : i < length stops)
    (own : (m r : ℕ) → count_by (is_named m r) before + count_by (is_stop_named m r) stops ≤ 1) where
  abbrev stop : Stop
  stop = get_or stops i d

  abbrev kept : List Stop
  kept = filter valid (take i stops)

  abbrev named : Order → Bool
  named = is_named stop.member stop.reference

  abbrev stop_named : Stop → Bool
  stop_named = is_stop_named stop.member stop.reference

  pub stop-new : list_any named (before ++ map order_of_stop (filter reached kept)) ≡ false
  stop-new =
      none-counted named (before ++ map order_of_stop (filter reached kept)) (omega (
        arith,
        own stop.member stop.reference,
        counted-before stop_named valid stops i d within (stop_named-self stop),
        part (one stop_named) reached kept,
        sum_by-append (one named) before (map order_of_stop (filter reached kept)),
        sum-map (one named) order_of_stop (filter reached kept),
      ))

  pub held-new : list_any stop_named (filter (λ (s : Stop). not (reached s)) kept) ≡ false
  held-new =
      none-counted stop_named (filter (λ (s : Stop). not (reached s)) kept) (omega (
        arith,
        own stop.member stop.reference,
        counted-before stop_named valid stops i d within (stop_named-self stop),
        part (one stop_named) (λ (s : Stop). not (reached s)) kept,
      ))

-- ---- places in the book

-- a place that was reserved is there
pub reserved-there : (reserved old : List Place) (place : Place) → SamePlaces reserved (place ∷ old) → list_any (same_place place) reserved ≡ true
reserved-there reserved old place same =
    let once : ℕ = 1 in
    let here : cond (same_place place place) 1 0 ≡ once = rw (same_place-self place) refl in
    any-counted (same_place place) reserved (omega (arith, same.counts place, counted-cons (same_place place) place old, here))

-- one that was reserved and used leaves the places as they were
pub same-after : (held old reserved new : List Place) (place : Place) → SamePlaces old held → SamePlaces reserved (place ∷ old) → SamePlaces reserved (place ∷ new) → SamePlaces new held
same-after held old reserved new place same more used =
    record {
      length = omega (arith, same.length, more.length, used.length);
      counts = λ p. omega (
        arith,
        same.counts p,
        more.counts p,
        used.counts p,
        counted-cons (same_place p) place old,
        counted-cons (same_place p) place new,
      );
    }

-- that of a stop which joins the held ones is one more
pub more-held : (held : List Stop) (stop : Stop) (old reserved : List Place) → SamePlaces old (places_of_stops held) → SamePlaces reserved (place_of_stop stop ∷ old)
    → SamePlaces reserved (places_of_stops (held ++ stop ∷ []))
more-held held stop old reserved same more =
    record {
      length = omega (arith, same.length, more.length, places-length held, places-length (held ++ stop ∷ []), length-append held (stop ∷ []));
      counts = λ p. omega (
        arith,
        same.counts p,
        more.counts p,
        counted-cons (same_place p) (place_of_stop stop) old,
        places-counted (same_place p) held,
        places-counted (same_place p) (held ++ stop ∷ []),
        sum_by_push (λ (s : Stop). cond (same_place p (place_of_stop s)) 1 0) held stop,
      );
    }

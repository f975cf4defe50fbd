-- What every book keeps of its orders, as an order joins it, leaves it or is reduced.
use Rattle.std.proofs.Common.{◌≡◌, ℕ, ◌<◌, Bool, true, false, not, ◌&&◌, ◌||◌, if◌then◌else◌, List, [], ◌∷◌, ◌++◌, length, get_or, map, filter, find, Option, Some, option_map, refl, ap, ◌∙◌, arith}
use Rattle.std.specs.List.{All, list_all, list_any}
use Rattle.std.proofs.lemmas.Bool.{and_parts, or_parts}
use Rattle.std.proofs.lemmas.List.Elements.{All-head, All-tail}
use Rattle.std.proofs.lemmas.List.Folds.{list_all-append}
use Rattle.xm_queues.specs.Keys.{AreDistinct}
use Rattle.xm_book.specs.Listing.{order_owner, order_reference, reduced_at}
use Rattle.xm_rules.specs.Commands.{is_in_range}
use Rattle.xm_rules.specs.Orders.{is_named, removed, with_rest}
use Rattle.xm_rules.specs.declared.orders.Order.{Order}
use Rattle.xm_slots.specs.Listing.{keys_in, listed_item}
use Rattle.xm_slots.specs.Naming.{has_name, have_own_names, key_by_name}
use Rattle.xm_slots.specs.declared.listing.Listed.{Listed}
use Rattle.xm_slots.proofs.Naming.{by-key}
use Rattle.xm_slots.proofs.Tests.{length-kept}

abbrev has : ℕ → ℕ → Listed Order → Bool
has member reference x = has_name order_owner order_reference member reference x

abbrev all_own : List Order → Bool
all_own os = have_own_names order_owner order_reference os

abbrev key_named : ℕ → ℕ → List (Listed Order) → Option ℕ
key_named member reference xs = key_by_name order_owner order_reference member reference xs

abbrev key_in : Option (Listed Order) → Option ℕ
key_in o = option_map (λ (x : Listed Order). x.key) o

-- ---- rests in range
pub rests-push : (p : Order → Bool) (os : List Order) (o : Order) → list_all p os ≡ true → p o ≡ true → list_all p (os ++ o ∷ []) ≡ true
rests-push p os o h e = list_all-append p os (o ∷ []) ∙ (λ i. h i && (e i && true))

pub rests-kept : (q p : Order → Bool) (os : List Order) → list_all q os ≡ true → list_all q (filter p os) ≡ true
rests-kept q p [] h = refl
rests-kept q p (o ∷ os) h = kept_if (p o) parts.0 (rests-kept q p os parts.1)
  where
    parts : (q o ≡ true) × (list_all q os ≡ true)
    parts = and_parts (q o) (list_all q os) h

    kept_if : (b : Bool) → q o ≡ true → list_all q (filter p os) ≡ true → list_all q (if b then o ∷ filter p os else filter p os) ≡ true
    kept_if true at rest = (λ i. at i && rest i)
    kept_if false at rest = rest

-- ---- an order is reduced
abbrev pub reduced : ℕ → ℕ → ℕ → Listed Order → Listed Order
reduced member reference rest z = if has member reference z then (let o = z.item in record z { item = record o { rest = rest } }) else z

map-same : {X Y : Type 0} (f g : X → Y) (xs : List X) → All (λ x. f x ≡ g x) xs → map f xs ≡ map g xs
map-same f g [] h = refl
map-same f g (x ∷ xs) h = (λ i. All-head (λ x. f x ≡ g x) x xs h i ∷ map-same f g xs (All-tail (λ x. f x ≡ g x) x xs h) i)

-- the order of a key is reduced, which is that of a name
pub reduced-by-key : (member reference rest : ℕ) (xs : List (Listed Order)) (x : Listed Order) → AreDistinct (keys_in xs) → all_own (map listed_item xs) ≡ true → find (has member reference) xs ≡ Some x
    → map (reduced_at x.key rest) xs ≡ map (reduced member reference rest) xs
reduced-by-key member reference rest xs x d own f =
    map-same (reduced_at x.key rest) (reduced member reference rest) xs
    (λ k e lt. (let z = get_or xs k e in ap (λ (b : Bool). if b then (let o = z.item in record z { item = record o { rest = rest } }) else z) (by-key order_owner order_reference member reference xs x d own f k e lt)))

pub orders-reduced : (member reference rest : ℕ) (xs : List (Listed Order)) → map listed_item (map (reduced member reference rest) xs) ≡ with_rest member reference rest (map listed_item xs)
orders-reduced member reference rest [] = refl
orders-reduced member reference rest (x ∷ xs) = (λ i. order_if (has member reference x) i ∷ orders-reduced member reference rest xs i)
  where
    order_if : (b : Bool) → listed_item (if b then (let o = x.item in record x { item = record o { rest = rest } }) else x) ≡ (if b then record x.item { rest = rest } else x.item)
    order_if true = refl
    order_if false = refl

module _ (member reference rest m r : ℕ) where
  key_if : (x : Listed Order) (ys zs : List (Listed Order)) (b : Bool) → key_named m r ys ≡ key_named m r zs
      → key_named m r ((if b then (let o = x.item in record x { item = record o { rest = rest } }) else x) ∷ ys) ≡ key_named m r (x ∷ zs)
  key_if x ys zs true h = found_if (has m r x)
    where
      found_if : (c : Bool) → key_in (if c then Some (let o = x.item in record x { item = record o { rest = rest } }) else find (has m r) ys) ≡ key_in (if c then Some x else find (has m r) zs)
      found_if true = refl
      found_if false = h
  key_if x ys zs false h = found_if (has m r x)
    where
      found_if : (c : Bool) → key_in (if c then Some x else find (has m r) ys) ≡ key_in (if c then Some x else find (has m r) zs)
      found_if true = refl
      found_if false = h

  pub key_of-reduced : (xs : List (Listed Order)) → key_named m r (map (reduced member reference rest) xs) ≡ key_named m r xs
  key_of-reduced [] = refl
  key_of-reduced (x ∷ xs) = key_if x (map (reduced member reference rest) xs) xs (has member reference x) (key_of-reduced xs)

pub own_names-reduced : (member reference rest : ℕ) (os : List Order) → all_own os ≡ true → all_own (with_rest member reference rest os) ≡ true
own_names-reduced member reference rest [] h = refl
own_names-reduced member reference rest (o ∷ os) h =
    own_if (is_named member reference o) (ap not (any_same o.member o.reference os) ∙ parts.0) (own_names-reduced member reference rest os parts.1)
  where
    any : Bool
    any = list_any (is_named o.member o.reference) os

    parts : (not any ≡ true) × (all_own os ≡ true)
    parts = and_parts (not any) (all_own os) h

    named_if : (m r : ℕ) (o : Order) (b : Bool) → is_named m r (if b then record o { rest = rest } else o) ≡ is_named m r o
    named_if m r o true = refl
    named_if m r o false = refl

    any_same : (m r : ℕ) (os : List Order) → list_any (is_named m r) (with_rest member reference rest os) ≡ list_any (is_named m r) os
    any_same m r [] = refl
    any_same m r (o ∷ os) = (λ i. named_if m r o (is_named member reference o) i || any_same m r os i)

    own_if : (b : Bool) → not (list_any (is_named o.member o.reference) (with_rest member reference rest os)) ≡ true → all_own (with_rest member reference rest os) ≡ true
        → all_own ((if b then record o { rest = rest } else o) ∷ with_rest member reference rest os) ≡ true
    own_if true at rest' = (λ i. at i && rest' i)
    own_if false at rest' = (λ i. at i && rest' i)

pub rests-reduced : (member reference rest : ℕ) (os : List Order) → is_in_range rest ≡ true → list_all (λ (o : Order). is_in_range o.rest) os ≡ true
    → list_all (λ (o : Order). is_in_range o.rest) (with_rest member reference rest os) ≡ true
rests-reduced member reference rest [] e h = refl
rests-reduced member reference rest (o ∷ os) e h = (λ i. rest_if (is_named member reference o) parts.0 i && rests-reduced member reference rest os e parts.1 i)
  where
    parts : (is_in_range o.rest ≡ true) × (list_all (λ (o : Order). is_in_range o.rest) os ≡ true)
    parts = and_parts (is_in_range o.rest) (list_all (λ (o : Order). is_in_range o.rest) os) h

    rest_if : (b : Bool) → is_in_range o.rest ≡ true → is_in_range (let p : Order = if b then record o { rest = rest } else o in p).rest ≡ true
    rest_if true at = e
    rest_if false at = at

pub nothing-reduced : (member reference rest : ℕ) (os : List Order) → list_any (is_named member reference) os ≡ false → with_rest member reference rest os ≡ os
nothing-reduced member reference rest [] h = refl
nothing-reduced member reference rest (o ∷ os) h =
    let parts = or_parts (is_named member reference o) (list_any (is_named member reference) os) h in
    (λ i. (if parts.0 i then record o { rest = rest } else o) ∷ nothing-reduced member reference rest os parts.1 i)

-- one fewer is left
pub fewer-left : (member reference : ℕ) (os : List Order) → list_any (is_named member reference) os ≡ true → length (removed member reference os) < length os
fewer-left member reference [] h = absurd (cc)
fewer-left member reference (o ∷ os) h = fewer_if (is_named member reference o) (fewer-left member reference os) h
  where
    fewer_if : (b : Bool) → (list_any (is_named member reference) os ≡ true → length (removed member reference os) < length os) → (b || list_any (is_named member reference) os) ≡ true
        → length (if not b then o ∷ removed member reference os else removed member reference os) < length (o ∷ os)
    fewer_if true rest h = omega (arith, length-kept (λ (p : Order). not (is_named member reference p)) os)
    fewer_if false rest h = let fewer = rest h in omega (arith, fewer)

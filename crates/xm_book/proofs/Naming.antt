-- Orders that have names of their own: at each name stands one.
use Rattle.xm_book.specs.Listing.{order_owner, order_reference}
use Rattle.xm_slots.specs.Naming.{have_own_names}
use Rattle.std.proofs.Common.{◌≡◌, ℕ, ◌+◌, true, false, not, ◌&&◌, ◌==◌, List, [], ◌∷◌, map, find, Contains, Option, Some, None, refl, sym, ap, subst, ◌∙◌, ◌⊎◌, inl, inr, arith}
use Rattle.std.specs.List.{list_any}
use Rattle.std.proofs.lemmas.Bool.{and_parts, both_ways, not-true}
use Rattle.std.proofs.lemmas.Bool.Decides.{nat_tests}
use Rattle.xm_book.specs.Queues.{best_order, order_at, first}
use Rattle.xm_slots.proofs.Members.{Contains-cases, Contains-none, Contains-map, Passes-filter, find-Some, find-only, list_any-false}
use Rattle.xm_rules.specs.Active.{Positioned, positioned_from, active, is_active_on}
use Rattle.xm_rules.specs.Orders.{is_named}
use Rattle.xm_rules.specs.Priority.{is_ahead}
use Rattle.xm_rules.specs.declared.orders.Order.{Order}
use Rattle.xm_rules.specs.declared.orders.Side.{Side}
use Rattle.xm_rules.specs.declared.phases.Phase.{Phase}

same_numbers : (a b c d : ℕ) → ((c == a) && (d == b)) ≡ true → ((a == c) && (b == d)) ≡ true
same_numbers a b c d h = grind (arith, nat_tests)

itself : (a b : ℕ) → ((a == a) && (b == b)) ≡ true
itself a b = grind (arith, nat_tests)

pub named_itself : (o : Order) → is_named o.member o.reference o ≡ true
named_itself o = itself o.member o.reference

pub named_back : (a b : Order) → is_named a.member a.reference b ≡ true → is_named b.member b.reference a ≡ true
named_back a b h = same_numbers a.member a.reference b.member b.reference h

module _ {X : Type 0} (order_of : X → Order) where
  none_later : (x : X) (xs : List X) (a : X) → not (list_any (is_named (order_of x).member (order_of x).reference) (map order_of xs)) ≡ true → Contains xs a
      → is_named (order_of x).member (order_of x).reference (order_of a) ≡ false
  none_later x xs a h at =
      list_any-false (is_named (order_of x).member (order_of x).reference) (map order_of xs) (order_of a)
      (not-true (list_any (is_named (order_of x).member (order_of x).reference) (map order_of xs)) h) (Contains-map order_of xs a at)

  -- two of one name in a list, by where they stand in it
  one_by : (x : X) (xs : List X) (a b : X) → not (list_any (is_named (order_of x).member (order_of x).reference) (map order_of xs)) ≡ true
      → is_named (order_of a).member (order_of a).reference (order_of b) ≡ true → (Contains xs a → Contains xs b → b ≡ a)
      → (x ≡ a) ⊎ Contains xs a → (x ≡ b) ⊎ Contains xs b → b ≡ a
  one_by x xs a b none same rest (inl e) (inl f) = sym f ∙ e
  one_by x xs a b none same rest (inl e) (inr bt) =
      absurd (both_ways (is_named (order_of a).member (order_of a).reference (order_of b))
      (subst (λ (z : X). is_named (order_of z).member (order_of z).reference (order_of b) ≡ false) e (none_later x xs b none bt)) same)
  one_by x xs a b none same rest (inr at) (inl f) =
      absurd (both_ways (is_named (order_of b).member (order_of b).reference (order_of a))
      (subst (λ (z : X). is_named (order_of z).member (order_of z).reference (order_of a) ≡ false) f (none_later x xs a none at)) (named_back (order_of a) (order_of b) same))
  one_by x xs a b none same rest (inr at) (inr bt) = rest at bt

  -- of one name there is one
  pub one_of_name : (xs : List X) → have_own_names order_owner order_reference (map order_of xs) ≡ true → (a b : X) → Contains xs a → Contains xs b
      → is_named (order_of a).member (order_of a).reference (order_of b) ≡ true → b ≡ a
  one_of_name [] own a b at bt same = absurd (Contains-none a at)
  one_of_name (x ∷ xs) own a b at bt same =
      let parts = and_parts (not (list_any (is_named (order_of x).member (order_of x).reference) (map order_of xs))) (have_own_names order_owner order_reference (map order_of xs)) own in
      one_by x xs a b parts.0 same (λ i j. one_of_name xs parts.1 a b i j same) (Contains-cases x xs a at) (Contains-cases x xs b bt)

abbrev pub order_in : Positioned → Order
order_in i = i.order

pub orders_of_positioned : (k : ℕ) (os : List Order) → map order_in (positioned_from k os) ≡ os
orders_of_positioned k [] = refl
orders_of_positioned k (o ∷ os) = ap (λ (l : List Order). o ∷ l) (orders_of_positioned (k + 1) os)

pub own_positioned : (orders : List Order) → have_own_names order_owner order_reference orders ≡ true → have_own_names order_owner order_reference (map order_in (positioned_from 0 orders)) ≡ true
own_positioned orders own = ap (have_own_names order_owner order_reference) (orders_of_positioned 0 orders) ∙ own

-- its order is in the list
pub contains_order : (k : ℕ) (orders : List Order) (i : Positioned) → Contains (positioned_from k orders) i → Contains orders i.order
contains_order k orders i at = subst (λ (os : List Order). Contains os i.order) (orders_of_positioned k orders) (Contains-map order_in (positioned_from k orders) i at)

found_best : (phase : Phase) (side : Side) (orders : List Order) (o : Order) (found : Option Positioned) → first side (active phase side orders) ≡ found
    → order_at found ≡ Some o → Contains orders o
found_best phase side orders o None e h = absurd (cc)
found_best phase side orders o (Some i) e h =
    let queue = active phase side orders in
    let in_queue = find-Some (λ (j : Positioned). not (list_any (λ (x : Positioned). is_ahead side x j) queue)) queue i e in
    let at = Passes-filter (is_active_on phase side) (positioned_from 0 orders) i in_queue.contains in
    let same : i.order ≡ o = cc in
    subst (λ (p : Order). Contains orders p) same (contains_order 0 orders i at.contains)

pub contains_best : (phase : Phase) (side : Side) (orders : List Order) (o : Order) → best_order phase side orders ≡ Some o → Contains orders o
contains_best phase side orders o h = found_best phase side orders o (first side (active phase side orders)) refl h

pub found_by_name : (orders : List Order) (o : Order) → have_own_names order_owner order_reference orders ≡ true → Contains orders o → find (is_named o.member o.reference) orders ≡ Some o
found_by_name orders o own at =
    let same = orders_of_positioned 0 orders in
    find-only (is_named o.member o.reference) orders o (record { contains = at; passes = named_itself o })
    (λ z in_orders named. one_of_name (λ (x : Order). x) orders (ap (have_own_names order_owner order_reference) (map_same orders) ∙ own) o z at in_orders named)
  where
    map_same : (os : List Order) → map (λ (x : Order). x) os ≡ os
    map_same [] = refl
    map_same (x ∷ xs) = ap (λ (l : List Order). x ∷ l) (map_same xs)

pub best_by_name : (phase : Phase) (side : Side) (orders : List Order) (o : Order) → have_own_names order_owner order_reference orders ≡ true → best_order phase side orders ≡ Some o
    → find (is_named o.member o.reference) orders ≡ Some o
best_by_name phase side orders o own h = found_by_name orders o own (contains_best phase side orders o h)

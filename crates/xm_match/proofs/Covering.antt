-- Whether the orders that a sweep may execute have the incoming quantity: the market orders and then the levels are passed, until
-- they have, or until there is none left, or the next one may not be executed.
use Rattle.std.proofs.Common.{◌≡◌, ℕ, ◌-◌, ◌<◌, ◌≤◌, Bool, true, false, ◌&&◌, ◌||◌, not, ◌==◌, if◌then◌else◌, List, [], ◌∷◌, filter, sum_by, Contains, Option, Some, None, refl, sym, ap, subst, ◌∙◌, arith}
use Rattle.std.specs.Prelude.{nat_le, nat_lt}
use Rattle.std.proofs.lemmas.Bool.{both_ways, not_from_false}
use Rattle.std.proofs.lemmas.Bool.Decides.{nat_tests}
use Rattle.std.proofs.lemmas.List.Elements.{All-contains_itself}
use Rattle.xm_book.specs.Curves.{later, orders_left, units_to}
use Rattle.xm_book.specs.Queues.{level_after, market_sum, units_at}
use Rattle.xm_book.proofs.Bests.{reaches-on, reaches-once, reaches-other}
use Rattle.xm_book.proofs.Curves.{IsNext, Nexts, counted, fewer-left, next-adds, nexts, units_to-is}
use Rattle.xm_book.proofs.Limited.{limit_is}
use Rattle.xm_slots.proofs.Members.{Contains-filter_map, Contains-here, IsGiven-filter_map, Passes-filter}
use Rattle.xm_match.specs.Meeting.{meets_inside, terms_of}
use Rattle.xm_match.proofs.Cuts.{IsSound, executable_from, not_behind, not_inside, some_units}
use Rattle.xm_match.proofs.Progress.{inside_same}
use Rattle.xm_rules.specs.Active.{Positioned, limits}
use Rattle.xm_rules.specs.Orders.{limit_of, same_kind}
use Rattle.xm_rules.specs.Priority.{is_prior}
use Rattle.xm_rules.specs.Sides.{reaches}
use Rattle.xm_rules.specs.Sweep.{Sweep, is_executable, is_fillable, is_met_inside, other_side, queue}
use Rattle.xm_rules.specs.declared.orders.OrderKind.{OrderKind}
use Rattle.xm_rules.specs.declared.orders.OrderKind.TheVariants.{Market, Limit}
use Rattle.xm_rules.specs.declared.orders.Side.{Side}
use Rattle.xm_rules.specs.declared.phases.Phase.TheVariants.{Continuous}
use Rattle.xm_rules.proofs.Orderings.{sum-filter}
use Rattle.xm_rules.proofs.Queues.{if_gap, if_le, units}
use Rattle.xm_rules.proofs.Sums.{sum-gap, sum-le, sum-zero}

-- ---- the units of the orders that may be executed
abbrev executable_units : Sweep → Positioned → ℕ
executable_units w i = if is_executable w i then units i else 0

abbrev total : Sweep → ℕ
total w = sum_by (executable_units w) (queue w)

fillable_is : (w : Sweep) → is_fillable w ≡ nat_le w.incoming.rest (total w)
fillable_is w = ap (nat_le w.incoming.rest) (sum-filter units (is_executable w) (queue w))

enough_units : (n m : ℕ) → n ≤ m → nat_le n m ≡ true
enough_units n m l = grind (arith, nat_tests)

too_few_units : (n m : ℕ) → m < n → nat_le n m ≡ false
too_few_units n m l = grind (arith, nat_tests)

no_units : (n m : ℕ) → m ≡ 0 → nat_le n m ≡ (n == 0)
no_units n m e = grind (arith, nat_tests)

module _ (w : Sweep) (among : Positioned → Bool) where
  abbrev units_among : ℕ
  units_among = sum_by (λ (i : Positioned). if among i then units i else 0) (queue w)

  -- they have what some have each of which may be executed
  total_from : ((i : Positioned) → Contains (queue w) i → among i ≡ true → is_executable w i ≡ true) → units_among ≤ total w
  total_from each =
      sum-le (λ (i : Positioned). if among i then units i else 0) (executable_units w) (queue w) (λ k e l. at_one _ (All-contains_itself (queue w) k e l))
    where
      at_one : (i : Positioned) → Contains (queue w) i → (if among i then units i else 0) ≤ executable_units w i
      at_one i at = if_le (among i) (is_executable w i) (units i) (each i at)

  -- and no more, where no other may be
  total_within : ((i : Positioned) → Contains (queue w) i → among i ≡ false → is_executable w i ≡ false) → total w ≤ units_among
  total_within each =
      sum-le (executable_units w) (λ (i : Positioned). if among i then units i else 0) (queue w) (λ k e l. at_one _ (All-contains_itself (queue w) k e l))
    where
      is_among : (i : Positioned) → Contains (queue w) i → is_executable w i ≡ true → (b : Bool) → among i ≡ b → b ≡ true
      is_among i at h true e = refl
      is_among i at h false e = absurd (both_ways (is_executable w i) (each i at e) h)

      at_one : (i : Positioned) → Contains (queue w) i → executable_units w i ≤ (if among i then units i else 0)
      at_one i at = if_le (is_executable w i) (among i) (units i) (λ h. is_among i at h (among i) refl)

-- ---- the orders of a kind
kind_is_market : (kind : OrderKind) → same_kind Market kind ≡ true → kind ≡ Market
kind_is_market Market h = refl
kind_is_market (Limit p) h = absurd (cc)

pub record IsThere (queue : List Positioned) (kind : OrderKind) : Type 0 where
  pub one : Positioned
  pub contained : Contains queue one
  pub is : one.order.kind ≡ kind

-- an order with a limit of the queue
limit_there : (queue : List Positioned) (p : ℕ) → Contains (limits queue) p → IsThere queue (Limit p)
limit_there queue p at =
    let given = IsGiven-filter_map (λ (i : Positioned). limit_of i.order.kind) queue p at in
    record { one = given.from; contained = given.contains; is = limit_is given.from.order.kind p given.given }

-- a market order, where some units are at the market
market_there : (queue : List Positioned) → 0 < units_at Market queue → IsThere queue Market
market_there queue some = of_kept (filter is_market queue) refl some
  where
    is_market : Positioned → Bool
    is_market = λ (i : Positioned). same_kind Market i.order.kind

    of_kept : (kept : List Positioned) → filter is_market queue ≡ kept → 0 < sum_by units kept → IsThere queue Market
    of_kept [] e some = absurd (omega arith)
    of_kept (i ∷ is) e some =
        let p = Passes-filter is_market queue i (subst (λ (l : List Positioned). Contains l i) (sym e) (Contains-here i is)) in
        record { one = i; contained = p.contains; is = kind_is_market i.order.kind p.passes }

unit_at : (kind : OrderKind) (queue : List Positioned) (i : Positioned) → Contains queue i → same_kind kind i.order.kind ≡ true → units i ≤ units_at kind queue
unit_at kind queue i at h =
    let of_kind = λ (j : Positioned). same_kind kind j.order.kind in
    let gap = sum-gap (λ (j : Positioned). 0) (λ (j : Positioned). if of_kind j then units j else 0) (units i) (λ j. omega arith) queue i
    (if_gap false (of_kind i) (units i) refl h) at.0 at.1 at.2 in
    omega (arith, gap, sum-filter units of_kind queue)

-- ---- which orders are passed
market_counted : (side : Side) (after : Option ℕ) → counted side after Market ≡ true
market_counted side None = refl
market_counted side (Some a) = refl

later_unless : (side : Side) (after : Option ℕ) (q : ℕ) → counted side after (Limit q) ≡ false → later side after q ≡ true
later_unless side None q e = refl
later_unless side (Some a) q e = not_from_false (reaches side q a) e

-- an order that wasn't passed has a limit that comes after
pub record IsLater (side : Side) (after : Option ℕ) (queue : List Positioned) (i : Positioned) : Type 0 where
  pub limit : ℕ
  pub kind : i.order.kind ≡ Limit limit
  pub there : Contains (limits queue) limit
  pub behind : later side after limit ≡ true

not_passed : (side : Side) (after : Option ℕ) (queue : List Positioned) (i : Positioned) → Contains queue i → counted side after i.order.kind ≡ false → IsLater side after queue i
not_passed side after queue i at e = by_kind i.order.kind refl
  where
    by_kind : (kind : OrderKind) → i.order.kind ≡ kind → IsLater side after queue i
    by_kind Market is = absurd (both_ways (counted side after Market) (sym (ap (counted side after) is) ∙ e) (market_counted side after))
    by_kind (Limit q) is = record {
      limit = q;
      kind = is;
      there = Contains-filter_map (λ (j : Positioned). limit_of j.order.kind) queue i q (ap limit_of is) at;
      behind = later_unless side after q (sym (ap (counted side after) is) ∙ e);
    }

prior_if : (x y b : Bool) → (x ≡ false → y ≡ true) → (not x || (not (not y) && b)) ≡ true → y ≡ true
prior_if x true b f h = refl
prior_if true false b f h = absurd (cc)
prior_if false false b f h = f refl

-- what is prior to an order that was passed was passed as well
passed_before : (side : Side) (after : Option ℕ) (kind other : OrderKind) (earlier : Bool) → is_prior side kind other earlier ≡ true → counted side after other ≡ true
    → counted side after kind ≡ true
passed_before side after Market other earlier h c = market_counted side after
passed_before side after (Limit p) Market earlier h c = absurd (cc)
passed_before side None (Limit p) (Limit q) earlier h c = absurd (cc)
passed_before side (Some a) (Limit p) (Limit q) earlier h c =
    reaches-on side p q a (prior_if (reaches side q p) (reaches side p q) earlier (reaches-other side q p) h) c

-- ---- how far the levels were passed
-- down to a limit, or as far as the market orders alone, each order is met inside the ranges, and so many units are missing
pub record Passed (w : Sweep) (missing : ℕ) (after : Option ℕ) : Type 0 where
  pub left : missing ≡ w.incoming.rest - units_to Continuous (other_side w) after w.orders
  pub inside : (i : Positioned) → Contains (queue w) i → counted (other_side w) after i.order.kind ≡ true → meets_inside (terms_of w) i.order.kind ≡ true

module _ (w : Sweep) where
  off_kind : (i : Positioned) (kind : OrderKind) → Contains (queue w) i → i.order.kind ≡ kind → meets_inside (terms_of w) kind ≡ false → is_met_inside w i ≡ false
  off_kind i kind at is outside = sym (inside_same w i at) ∙ ap (meets_inside (terms_of w)) is ∙ outside

  -- ---- the market orders
  module _ (s : IsSound w) where
    pub at_market : (market missing : ℕ) → market ≡ market_sum Continuous (other_side w) w.orders → missing ≡ w.incoming.rest - market
        → (0 < market → meets_inside (terms_of w) Market ≡ true) → Passed w missing None
    at_market market missing is left met = record {
      left = left ∙ ap (λ (n : ℕ). w.incoming.rest - n) is;
      inside = λ i at c.
          let some = some_units w s i at in
          let within = unit_at Market (queue w) i at c in
          ap (meets_inside (terms_of w)) (kind_is_market i.order.kind c) ∙ met (omega arith);
    }

  pub at_market_outside : 0 < market_sum Continuous (other_side w) w.orders → meets_inside (terms_of w) Market ≡ false → is_fillable w ≡ (w.incoming.rest == 0)
  at_market_outside some outside =
      let least = total_within w (λ (i : Positioned). false) (λ i at e. by_kind i at i.order.kind refl) in
      let none = sum-zero (λ (i : Positioned). if false then units i else 0) (queue w) (λ i. refl) in
      fillable_is w ∙ no_units w.incoming.rest (total w) (omega arith)
    where
      m : IsThere (queue w) Market
      m = market_there (queue w) some

      by_kind : (i : Positioned) → Contains (queue w) i → (kind : OrderKind) → i.order.kind ≡ kind → is_executable w i ≡ false
      by_kind i at Market is = not_inside w i (off_kind i Market at is outside)
      by_kind i at (Limit q) is =
          not_behind w m.one (off_kind m.one Market m.contained m.is outside) m.contained i
          (λ j. is_prior (other_side w) (m.is j) (is j) (nat_lt m.one.position i.position))

  module _ (missing : ℕ) (after : Option ℕ) (r : Passed w missing after) where
    abbrev passed : Positioned → Bool
    passed i = counted (other_side w) after i.order.kind

    counted_units : units_to Continuous (other_side w) after w.orders ≡ units_among w passed
    counted_units = units_to-is Continuous (other_side w) after w.orders

    -- ---- they have enough
    may_be_executed : (i : Positioned) → Contains (queue w) i → passed i ≡ true → is_executable w i ≡ true
    may_be_executed i at c =
        executable_from w i (met i at c)
        (λ j to h. met j to (passed_before (other_side w) after j.order.kind i.order.kind (nat_lt j.position i.position) h c))
      where
        met : (j : Positioned) → Contains (queue w) j → passed j ≡ true → is_met_inside w j ≡ true
        met j to e = sym (inside_same w j to) ∙ r.inside j to e

    pub at_enough : missing ≡ 0 → is_fillable w ≡ true
    at_enough none =
        let enough = total_from w passed may_be_executed in
        let sum = counted_units in
        let left = r.left in
        fillable_is w ∙ enough_units w.incoming.rest (total w) (omega arith)

    -- ---- no other may be executed
    too_few : ((i : Positioned) → Contains (queue w) i → passed i ≡ false → is_executable w i ≡ false) → 0 < missing → is_fillable w ≡ false
    too_few none some =
        let no_more = total_within w passed none in
        let sum = counted_units in
        let left = r.left in
        fillable_is w ∙ too_few_units w.incoming.rest (total w) (omega arith)

    at_none_by : Nexts (other_side w) after (queue w) None → 0 < missing → is_fillable w ≡ false
    at_none_by none some =
        too_few (λ i at e. let l = not_passed (other_side w) after (queue w) i at e in absurd (none l.limit l.there l.behind)) some

    pub at_none : level_after Continuous (other_side w) after w.orders ≡ None → 0 < missing → is_fillable w ≡ false
    at_none e = at_none_by (subst (Nexts (other_side w) after (queue w)) e (nexts Continuous (other_side w) after w.orders))

    -- ---- the next level
    module _ (p n : ℕ) (is_next : level_after Continuous (other_side w) after w.orders ≡ Some (p, n)) where
      next : IsNext (other_side w) after (queue w) p n
      next = subst (Nexts (other_side w) after (queue w)) is_next (nexts Continuous (other_side w) after w.orders)

      pub fewer : orders_left Continuous (other_side w) (Some p) w.orders < orders_left Continuous (other_side w) after w.orders
      fewer = fewer-left Continuous (other_side w) after w.orders p n next

      -- an order that wasn't passed is of the level where its limit reaches it
      of_level : (i : Positioned) (l : IsLater (other_side w) after (queue w) i) → reaches (other_side w) l.limit p ≡ true → i.order.kind ≡ Limit p
      of_level i l h = l.kind ∙ ap (λ (q : ℕ). Limit q) (reaches-once (other_side w) l.limit p h (next.first l.limit l.there l.behind))

      pub at_outside : meets_inside (terms_of w) (Limit p) ≡ false → 0 < missing → is_fillable w ≡ false
      at_outside outside = too_few (λ i at e. let l = not_passed (other_side w) after (queue w) i at e in by_reach i at l (reaches (other_side w) l.limit p) refl)
        where
          m : IsThere (queue w) (Limit p)
          m = limit_there (queue w) p next.there

          by_reach : (i : Positioned) → Contains (queue w) i → (l : IsLater (other_side w) after (queue w) i) → (b : Bool) → reaches (other_side w) l.limit p ≡ b
              → is_executable w i ≡ false
          by_reach i at l true h = not_inside w i (off_kind i (Limit p) at (of_level i l h) outside)
          by_reach i at l false h =
              not_behind w m.one (off_kind m.one (Limit p) m.contained m.is outside) m.contained i
              ((λ j. is_prior (other_side w) (m.is j) (l.kind j) (nat_lt m.one.position i.position))
              ∙ (λ j. not (h j) || (not (not (reaches (other_side w) p l.limit)) && nat_lt m.one.position i.position)))

      pub on : (left : ℕ) → left ≡ missing - n → meets_inside (terms_of w) (Limit p) ≡ true → Passed w left (Some p)
      on left is met = record {
        left = (let more = next-adds Continuous (other_side w) after w.orders p n next in let before = r.left in omega arith);
        inside = λ i at c. by_passed i at c (passed i) refl;
      }
        where
          by_passed : (i : Positioned) → Contains (queue w) i → counted (other_side w) (Some p) i.order.kind ≡ true → (b : Bool) → passed i ≡ b
              → meets_inside (terms_of w) i.order.kind ≡ true
          by_passed i at c true e = r.inside i at e
          by_passed i at c false e =
              let l = not_passed (other_side w) after (queue w) i at e in
              ap (meets_inside (terms_of w)) (of_level i l (sym (ap (counted (other_side w) (Some p)) l.kind) ∙ c)) ∙ met

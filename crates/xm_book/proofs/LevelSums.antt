-- The units of a level of each restriction add up to those of the active orders of the side.
use Rattle.xm_slots.specs.Listing.{listed_item}
use Rattle.std.proofs.Common.{◌≡◌, ℕ, zero, suc, ◌+◌, ◌==◌, ◌≤◌, Bool, true, false, ◌&&◌, if◌then◌else◌, List, [], ◌∷◌, map, filter, sum_by, refl, sym, ap, ◌∙◌, arith}
use Rattle.std.proofs.Common.{Option, Some, None}
use Rattle.std.proofs.lemmas.Bool.Decides.{nat_tests}
use Rattle.std.proofs.lemmas.List.Sums.{sum_by-cons}
use Rattle.std.specs.Prelude.{nat_le, nat_lt}
use Rattle.xm_book.specs.Curves.{units_between}
use Rattle.xm_book.specs.Fronts.{has_kind, has_limit_in, is_in, is_limited_in, is_on}
use Rattle.xm_book.specs.Queued.{AreOrdersQueued, HoldsLevel, is_of_level, orders_of_level, units_in}
use Rattle.xm_ladders.specs.Ladder.{units_above, units_of}
use Rattle.xm_ladders.specs.Ladders.{ladder_on, level_on, side_of}
use Rattle.xm_ladders.specs.declared.ladders.Ladders.{Ladders}
use Rattle.xm_ladders.specs.declared.level.Level.{Level}
use Rattle.xm_queues.specs.declared.links.Link.{Link}
use Rattle.xm_slots.specs.Slots.{SlotsView}
use Rattle.xm_book.specs.Queues.{units_at}
use Rattle.xm_slots.specs.declared.listing.Listed.{Listed}
use Rattle.xm_slots.proofs.Members.{filter-filter, filter_none}
use Rattle.xm_book.proofs.Merging.{free_alone}
use Rattle.xm_rules.specs.Active.{Positioned, active, is_active, is_active_on, positioned_from}
use Rattle.xm_rules.specs.Orders.{same_kind, same_restriction}
use Rattle.xm_rules.specs.Settling.{is_continuous}
use Rattle.xm_rules.specs.Sides.{same_side}
use Rattle.xm_rules.specs.declared.orders.Order.{Order}
use Rattle.xm_rules.specs.declared.orders.OrderKind.{OrderKind}
use Rattle.xm_rules.specs.declared.orders.OrderKind.TheVariants.{Market, Limit}
use Rattle.xm_rules.specs.declared.orders.Restriction.{Restriction}
use Rattle.xm_rules.specs.declared.orders.Restriction.TheVariants.{Free, OpeningOnly, AuctionsOnly, ClosingOnly}
use Rattle.xm_rules.specs.declared.orders.Side.{Side}
use Rattle.xm_rules.specs.declared.phases.Phase.{Phase}

-- ---- a list and its time list have the same units
placed-units : (test : Order → Bool) (n : ℕ) (xs : List (Listed Order))
    → sum_by (λ (i : Positioned). i.order.rest) (filter (λ (i : Positioned). test i.order) (positioned_from n (map listed_item xs))) ≡ units_in (filter (λ (x : Listed Order). test x.item) xs)
placed-units test n [] = refl
placed-units test n (x ∷ xs) = units_if (test x.item) (placed-units test (n + 1) xs)
  where
    units_if : (b : Bool) → sum_by (λ (i : Positioned). i.order.rest) (filter (λ (i : Positioned). test i.order) (positioned_from (n + 1) (map listed_item xs))) ≡ units_in (filter (λ (y : Listed Order). test y.item) xs)
        → sum_by (λ (i : Positioned). i.order.rest)
        (if b then record { position = n; order = x.item } ∷ filter (λ (i : Positioned). test i.order) (positioned_from (n + 1) (map listed_item xs)) else filter (λ (i : Positioned). test i.order) (positioned_from (n + 1) (map listed_item xs)))
        ≡ units_in (if b then x ∷ filter (λ (y : Listed Order). test y.item) xs else filter (λ (y : Listed Order). test y.item) xs)
    units_if true e =
        sum_by-cons (λ (i : Positioned). i.order.rest) (record { position = n; order = x.item }) (filter (λ (i : Positioned). test i.order) (positioned_from (n + 1) (map listed_item xs)))
        ∙ ap (λ (m : ℕ). x.item.rest + m) e
        ∙ sym (sum_by-cons (λ (y : Listed Order). y.item.rest) x (filter (λ (y : Listed Order). test y.item) xs))
    units_if false e = e

units-passing : (phase : Phase) (side : Side) (passes : OrderKind → Bool) (xs : List (Listed Order))
    → units_in (filter (is_on phase side (λ (x : Listed Order). passes x.item.kind)) xs) ≡ sum_by (λ (i : Positioned). i.order.rest) (filter (λ (i : Positioned). passes i.order.kind) (active phase side (map listed_item xs)))
units-passing phase side passes xs =
    sym (ap (sum_by (λ (i : Positioned). i.order.rest)) (filter-filter (is_active_on phase side) (λ (i : Positioned). passes i.order.kind) (positioned_from 0 (map listed_item xs)))
    ∙ placed-units (λ (o : Order). (is_active phase o.restriction && same_side side o.side) && passes o.kind) 0 xs)

units-on : (phase : Phase) (side : Side) (k : OrderKind) (xs : List (Listed Order)) → units_in (filter (is_on phase side (has_kind k)) xs) ≡ units_at k (active phase side (map listed_item xs))
units-on phase side k xs = units-passing phase side (same_kind k) xs

-- ---- the four restrictions
and_false : (b : Bool) → (b && false) ≡ false
and_false true = refl
and_false false = refl

and_true : (b : Bool) → (b && true) ≡ b
and_true true = refl
and_true false = refl

abbrev weight : Bool → ℕ → ℕ
weight b n = if b then n else 0

-- an order is of one of the four
one_of_four : (active : Restriction → Bool) (r : Restriction) (s t : Bool) (n : ℕ)
    → weight (active Free && (s && (same_restriction Free r && t))) n + weight (active OpeningOnly && (s && (same_restriction OpeningOnly r && t))) n
    + weight (active AuctionsOnly && (s && (same_restriction AuctionsOnly r && t))) n + weight (active ClosingOnly && (s && (same_restriction ClosingOnly r && t))) n
    ≡ weight ((active r && s) && t) n
one_of_four active r false t n = simp (and_false) (omega arith)
one_of_four active Free true t n = simp (and_false, and_true) (omega arith)
one_of_four active OpeningOnly true t n = simp (and_false, and_true) (omega arith)
one_of_four active AuctionsOnly true t n = simp (and_false, and_true) (omega arith)
one_of_four active ClosingOnly true t n = simp (and_false, and_true) (omega arith)

units-cons : (test : Listed Order → Bool) (x : Listed Order) (xs : List (Listed Order)) → units_in (filter test (x ∷ xs)) ≡ weight (test x) x.item.rest + units_in (filter test xs)
units-cons test x xs = units_if (test x)
  where
    units_if : (b : Bool) → units_in (if b then x ∷ filter test xs else filter test xs) ≡ weight b x.item.rest + units_in (filter test xs)
    units_if true = sum_by-cons (λ (y : Listed Order). y.item.rest) x (filter test xs)
    units_if false = omega arith

module _ (phase : Phase) (side : Side) (test : Listed Order → Bool) where
  four-sums : (xs : List (Listed Order))
      → units_in (filter (is_in phase side Free test) xs) + units_in (filter (is_in phase side OpeningOnly test) xs)
      + units_in (filter (is_in phase side AuctionsOnly test) xs) + units_in (filter (is_in phase side ClosingOnly test) xs)
      ≡ units_in (filter (is_on phase side test) xs)
  four-sums [] = omega arith
  four-sums (x ∷ xs) =
      let one = one_of_four (is_active phase) x.item.restriction (same_side side x.item.side) (test x) x.item.rest in
      omega (
        arith,
        one,
        four-sums xs,
        units-cons (is_in phase side Free test) x xs,
        units-cons (is_in phase side OpeningOnly test) x xs,
        units-cons (is_in phase side AuctionsOnly test) x xs,
        units-cons (is_in phase side ClosingOnly test) x xs,
        units-cons (is_on phase side test) x xs,
      )

pub units-of-four : (phase : Phase) (side : Side) (k : OrderKind) (xs : List (Listed Order))
    → units_in (filter (is_in phase side Free (has_kind k)) xs) + units_in (filter (is_in phase side OpeningOnly (has_kind k)) xs)
    + units_in (filter (is_in phase side AuctionsOnly (has_kind k)) xs) + units_in (filter (is_in phase side ClosingOnly (has_kind k)) xs)
    ≡ units_at k (active phase side (map listed_item xs))
units-of-four phase side k xs = four-sums phase side (has_kind k) xs ∙ units-on phase side k xs

pub units-between-four : (phase : Phase) (side : Side) (low n : ℕ) (xs : List (Listed Order))
    → units_in (filter (is_in phase side Free (has_limit_in low n)) xs) + units_in (filter (is_in phase side OpeningOnly (has_limit_in low n)) xs)
    + units_in (filter (is_in phase side AuctionsOnly (has_limit_in low n)) xs) + units_in (filter (is_in phase side ClosingOnly (has_limit_in low n)) xs)
    ≡ units_between phase side low n (map listed_item xs)
units-between-four phase side low n xs = four-sums phase side (has_limit_in low n) xs ∙ units-passing phase side (is_limited_in low n) xs

-- ---- the levels of one ladder in a range of limits
limits_split : (s t : Bool) (q low n units : ℕ)
    → weight (s && (t && (nat_lt low q && nat_le q (low + suc n)))) units ≡ weight (s && (t && ((low + 1) == q))) units + weight (s && (t && (nat_lt (low + 1) q && nat_le q (low + 1 + n)))) units
limits_split false t q low n units = omega arith
limits_split true false q low n units = omega arith
limits_split true true q low n units = by (q ≤ low) where
  by : (P : Type 0) → weight (nat_lt low q && nat_le q (low + suc n)) units ≡ weight ((low + 1) == q) units + weight (nat_lt (low + 1) q && nat_le q (low + 1 + n)) units
  by P = grind (arith, nat_tests)

kinds_split : (s t : Bool) (k : OrderKind) (low n units : ℕ)
    → weight (s && (t && is_limited_in low (suc n) k)) units ≡ weight (s && (t && same_kind (Limit (low + 1)) k)) units + weight (s && (t && is_limited_in (low + 1) n k)) units
kinds_split s t Market low n units = simp (and_false) (omega arith)
kinds_split s t (Limit q) low n units = limits_split s t q low n units

-- an order of a side and restriction with a limit in a range
abbrev pub is_of_range : Side → Restriction → ℕ → ℕ → Listed Order → Bool
is_of_range s r low n x = same_side s x.item.side && (same_restriction r x.item.restriction && has_limit_in low n x)

range-split : (s : Side) (r : Restriction) (low n : ℕ) (xs : List (Listed Order))
    → units_in (filter (is_of_range s r low (suc n)) xs) ≡ units_in (orders_of_level s r (Limit (low + 1)) xs) + units_in (filter (is_of_range s r (low + 1) n) xs)
range-split s r low n [] = refl
range-split s r low n (x ∷ xs) =
    omega (
      arith,
      kinds_split (same_side s x.item.side) (same_restriction r x.item.restriction) x.item.kind low n x.item.rest,
      range-split s r low n xs,
      units-cons (is_of_range s r low (suc n)) x xs,
      units-cons (is_of_level s r (Limit (low + 1))) x xs,
      units-cons (is_of_range s r (low + 1) n) x xs,
    )

range_none : (s t : Bool) (k : OrderKind) (low : ℕ) → (s && (t && is_limited_in low 0 k)) ≡ false
range_none s t Market low = simp (and_false)
range_none s t (Limit q) low = let none : (nat_lt low q && nat_le q (low + 0)) ≡ false = grind (arith, nat_tests) in rw none (simp (and_false))

held_units : (links : List Link) (o : Option Level) (ms : List (Listed Order)) → HoldsLevel links o ms → units_of o ≡ units_in ms
held_units links None ms e = sym (ap units_in e)
held_units links (Some level) ms e = e.units

module _ {A : Type 0} (xs : List (Listed Order)) (entries : SlotsView Order) (links : List Link) (ladders : Ladders A) (h : AreOrdersQueued xs entries links ladders) (s : Side) (r : Restriction) where
  -- the units of so many levels are those of the orders with their limits
  pub units-of-range : (low n : ℕ) → units_above (ladder_on r (side_of s ladders)).limits low n ≡ units_in (filter (is_of_range s r low n) xs)
  unfolding units_above
  units-of-range low zero = sym (ap units_in (filter_none (is_of_range s r low 0) xs (λ x c. range_none (same_side s x.item.side) (same_restriction r x.item.restriction) x.item.kind low)))
  units-of-range low (suc n) =
      omega (
        arith,
        held_units links (level_on (side_of s ladders) r (Limit (low + 1))) (orders_of_level s r (Limit (low + 1)) xs) (h.levels s r (Limit (low + 1))),
        units-of-range (low + 1) n,
        range-split s r low n xs,
      )

-- tests that agree keep the same units
same-units : (p q : Listed Order → Bool) → ((x : Listed Order) → p x ≡ q x) → (xs : List (Listed Order)) → units_in (filter p xs) ≡ units_in (filter q xs)
same-units p q same [] = refl
same-units p q same (x ∷ xs) =
    omega (arith, units-cons p x xs, units-cons q x xs, ap (λ (b : Bool). weight b x.item.rest) (same x), same-units p q same xs)

-- in continuous trading those of the free orders are all
pub units-of-free : (phase : Phase) (side : Side) (k : OrderKind) (xs : List (Listed Order)) → is_continuous phase ≡ true
    → units_in (filter (is_in phase side Free (has_kind k)) xs) ≡ units_at k (active phase side (map listed_item xs))
units-of-free phase side k xs continuous =
    same-units (is_in phase side Free (has_kind k)) (is_on phase side (has_kind k)) (free_alone phase side (has_kind k) xs continuous) xs ∙ units-on phase side k xs

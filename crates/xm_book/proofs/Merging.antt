-- The first of the orders that pass one of two tests is the first of the two firsts; so the answers of the four restrictions
-- are put together.
use Rattle.std.proofs.Common.{◌≡◌, ℕ, Bool, true, false, ◌&&◌, ◌||◌, not, if◌then◌else◌, List, Contains, Option, Some, None, refl, sym, ap, ◌∙◌, ◌⊎◌, inl, inr, arith}
use Rattle.std.specs.Prelude.{nat_le, nat_lt}
use Rattle.std.proofs.lemmas.Bool.{or_left, or_right, or_cases, or_from}
use Rattle.std.proofs.lemmas.Bool.Decides.{nat_tests}
use Rattle.xm_book.specs.Fronts.{IsBestOf, IsFirst, IsFirstOf, better_of_two, earlier_of_two, has_better, is_earlier, is_in, is_on}
use Rattle.xm_slots.specs.Listing.{listed_entry}
use Rattle.xm_slots.specs.declared.entry.Entry.{Entry}
use Rattle.xm_slots.specs.declared.listing.Listed.{Listed}
use Rattle.xm_rules.specs.Active.{is_active}
use Rattle.xm_rules.specs.Orders.{same_restriction}
use Rattle.xm_rules.specs.Priority.{is_better}
use Rattle.xm_rules.specs.Sides.{reaches, same_side}
use Rattle.xm_rules.specs.declared.orders.OrderKind.{OrderKind}
use Rattle.xm_rules.specs.declared.orders.OrderKind.TheVariants.{Market, Limit}
use Rattle.xm_rules.specs.declared.orders.Restriction.{Restriction}
use Rattle.xm_rules.specs.declared.orders.Restriction.TheVariants.{Free, OpeningOnly, AuctionsOnly, ClosingOnly}
use Rattle.xm_rules.specs.declared.orders.Side.{Side}
use Rattle.xm_rules.specs.declared.orders.Side.TheVariants.{Buy, Sell}
use Rattle.xm_rules.specs.Settling.{is_continuous}
use Rattle.xm_rules.specs.declared.phases.Phase.{Phase}
use Rattle.xm_rules.specs.declared.phases.Phase.TheVariants.{PreTrading, Call, Continuous, PostTrading, Ended}
use Rattle.xm_rules.specs.declared.orders.Order.{Order}

-- an order in which of two at most one is ahead, and what isn't ahead of one that isn't ahead isn't ahead
pub record IsOrder (ahead : Listed Order → Listed Order → Bool) : Type 0 where
  pub once : (a b : Listed Order) → ahead a b ≡ true → ahead b a ≡ false
  pub off : (a b c : Listed Order) → ahead a b ≡ false → ahead b c ≡ false → ahead a c ≡ false

either : (p q : Listed Order → Bool) (x : Listed Order) (P : Type 0) → (p x ≡ true → P) → (q x ≡ true → P) → (p x ≡ true) ⊎ (q x ≡ true) → P
either p q x P f g (inl h) = f h
either p q x P f g (inr h) = g h

module _ (ahead : Listed Order → Listed Order → Bool) (order : IsOrder ahead) (p q : Listed Order → Bool) (xs : List (Listed Order)) where
  -- the one of two firsts that is ahead is the first of both
  pub second_ahead : (a b : Listed Order) → ahead b a ≡ true → IsFirst ahead p xs a → IsFirst ahead q xs b → IsFirst ahead (λ x. p x || q x) xs b
  second_ahead a b e of_p of_q = record {
    contained = of_q.contained;
    passing = or_right (p b) (q b) of_q.passing;
    none = λ x c h. either p q x (ahead x b ≡ false) (λ i. order.off x a b (of_p.none x c i) (order.once b a e)) (λ i. of_q.none x c i) (or_cases (p x) (q x) h);
  }

  pub first_ahead : (a b : Listed Order) → ahead b a ≡ false → IsFirst ahead p xs a → IsFirst ahead q xs b → IsFirst ahead (λ x. p x || q x) xs a
  first_ahead a b e of_p of_q = record {
    contained = of_p.contained;
    passing = or_left (p a) (q a) of_p.passing;
    none = λ x c h. either p q x (ahead x a ≡ false) (λ i. of_p.none x c i) (λ i. order.off x b a (of_q.none x c i) e) (or_cases (p x) (q x) h);
  }

module _ (ahead : Listed Order → Listed Order → Bool) (p q : Listed Order → Bool) (xs : List (Listed Order)) where
  pub second_alone : (b : Listed Order) → ((x : Listed Order) → Contains xs x → p x ≡ false) → IsFirst ahead q xs b → IsFirst ahead (λ x. p x || q x) xs b
  second_alone b none of_q = record {
    contained = of_q.contained;
    passing = or_right (p b) (q b) of_q.passing;
    none = λ x c h. of_q.none x c (rw (none x c) at h);
  }

  one_of_two : (a b : Bool) → b ≡ false → (a || b) ≡ true → a ≡ true
  one_of_two true b e h = refl
  one_of_two false b e h = absurd (cc)

  pub first_alone : (a : Listed Order) → ((x : Listed Order) → Contains xs x → q x ≡ false) → IsFirst ahead p xs a → IsFirst ahead (λ x. p x || q x) xs a
  first_alone a none of_p = record {
    contained = of_p.contained;
    passing = or_left (p a) (q a) of_p.passing;
    none = λ x c h. of_p.none x c (one_of_two (p x) (q x) (none x c) h);
  }

  pub neither : ((x : Listed Order) → Contains xs x → p x ≡ false) → ((x : Listed Order) → Contains xs x → q x ≡ false) → (x : Listed Order) → Contains xs x → (p x || q x) ≡ false
  neither f g x c = or_from (p x) (q x) (f x c) (g x c)

  -- of tests that agree there is one first
  pub agrees : ((x : Listed Order) → p x ≡ q x) → (a : Listed Order) → IsFirst ahead p xs a → IsFirst ahead q xs a
  agrees same a f = record {
    contained = f.contained;
    passing = sym (same a) ∙ f.passing;
    none = λ x c h. f.none x c (same x ∙ h);
  }

-- ---- in time
times_once : (m n : ℕ) → nat_lt m n ≡ true → nat_lt n m ≡ false
times_once m n h = grind (arith, nat_tests)

times_off : (m n o : ℕ) → nat_lt m n ≡ false → nat_lt n o ≡ false → nat_lt m o ≡ false
times_off m n o h i = grind (arith, nat_tests)

pub time-order : IsOrder is_earlier
time-order = record { once = λ a b h. times_once a.time b.time h; off = λ a b c h i. times_off a.time b.time c.time h i }

module _ (p q : Listed Order → Bool) (xs : List (Listed Order)) where
  earlier_if : (a b : Entry Order) (x y : Listed Order) (t : Bool) → nat_lt b.time a.time ≡ t → a ≡ listed_entry x → b ≡ listed_entry y → IsFirst is_earlier p xs x → IsFirst is_earlier q xs y
      → IsFirstOf is_earlier (λ x. p x || q x) xs (if t then Some b else Some a)
  earlier_if a b x y true e f g of_p of_q = (y, g, second_ahead is_earlier time-order p q xs x y (sym (λ i. nat_lt (g i).time (f i).time) ∙ e) of_p of_q)
  earlier_if a b x y false e f g of_p of_q = (x, f, first_ahead is_earlier time-order p q xs x y (sym (λ i. nat_lt (g i).time (f i).time) ∙ e) of_p of_q)

  pub earlier-first : (a b : Option (Entry Order)) → IsFirstOf is_earlier p xs a → IsFirstOf is_earlier q xs b → IsFirstOf is_earlier (λ x. p x || q x) xs (earlier_of_two a b)
  earlier-first None None f g = neither is_earlier p q xs f g
  earlier-first None (Some b) f g = (g.0, g.1, second_alone is_earlier p q xs g.0 f g.2)
  earlier-first (Some a) None f g = (f.0, f.1, first_alone is_earlier p q xs f.0 g f.2)
  earlier-first (Some a) (Some b) f g = earlier_if a b f.0 g.0 (nat_lt b.time a.time) refl f.1 g.1 f.2 g.2

pub first_agrees : (ahead : Listed Order → Listed Order → Bool) (p q : Listed Order → Bool) (xs : List (Listed Order)) → ((x : Listed Order) → p x ≡ q x) → (o : Option (Entry Order)) → IsFirstOf ahead p xs o → IsFirstOf ahead q xs o
first_agrees ahead p q xs same None f = λ x c. sym (same x) ∙ f x c
first_agrees ahead p q xs same (Some e) f = (f.0, f.1, agrees ahead p q xs same f.0 f.2)

-- ---- by the limit
limits_once : (p q : ℕ) → not (nat_le p q) ≡ true → not (nat_le q p) ≡ false
limits_once p q h = grind (arith, nat_tests)

limits_off : (p q r : ℕ) → not (nat_le p q) ≡ false → not (nat_le q r) ≡ false → not (nat_le p r) ≡ false
limits_off p q r h i = grind (arith, nat_tests)

pub kinds_once : (side : Side) (k l : OrderKind) → is_better side k l ≡ true → is_better side l k ≡ false
kinds_once side Market Market h = absurd (cc)
kinds_once side Market (Limit q) h = refl
kinds_once side (Limit p) Market h = absurd (cc)
kinds_once Buy (Limit p) (Limit q) h = limits_once p q h
kinds_once Sell (Limit p) (Limit q) h = limits_once q p h

pub kinds_off : (side : Side) (k l j : OrderKind) → is_better side k l ≡ false → is_better side l j ≡ false → is_better side k j ≡ false
kinds_off side Market Market j h i = i
kinds_off side Market (Limit q) j h i = absurd (cc)
kinds_off side (Limit p) l Market h i = refl
kinds_off side (Limit p) Market (Limit r) h i = absurd (cc)
kinds_off Buy (Limit p) (Limit q) (Limit r) h i = limits_off p q r h i
kinds_off Sell (Limit p) (Limit q) (Limit r) h i = limits_off r q p i h

pub limit-order : (side : Side) → IsOrder (has_better side)
limit-order side = record {
  once = λ a b h. kinds_once side a.item.kind b.item.kind h;
  off = λ a b c h i. kinds_off side a.item.kind b.item.kind c.item.kind h i;
}

module _ (side : Side) (p q : Listed Order → Bool) (xs : List (Listed Order)) where
  better_if : (a b : ℕ) (x y : Listed Order) (t : Bool) → reaches side a b ≡ t → x.item.kind ≡ Limit a → y.item.kind ≡ Limit b → IsFirst (has_better side) p xs x → IsFirst (has_better side) q xs y
      → IsBestOf side (λ x. p x || q x) xs (Some (if t then a else b))
  better_if a b x y true e f g of_p of_q =
      (x, f, first_ahead (has_better side) (limit-order side) p q xs x y ((λ i. is_better side (g i) (f i)) ∙ ap not e) of_p of_q)
  better_if a b x y false e f g of_p of_q =
      (y, g, second_ahead (has_better side) (limit-order side) p q xs x y ((λ i. is_better side (g i) (f i)) ∙ ap not e) of_p of_q)

  pub better-best : (a b : Option ℕ) → IsBestOf side p xs a → IsBestOf side q xs b → IsBestOf side (λ x. p x || q x) xs (better_of_two side a b)
  better-best None None f g = neither (has_better side) p q xs f g
  better-best None (Some b) f g = (g.0, g.1, second_alone (has_better side) p q xs g.0 f g.2)
  better-best (Some a) None f g = (f.0, f.1, first_alone (has_better side) p q xs f.0 g f.2)
  better-best (Some a) (Some b) f g = better_if a b f.0 g.0 (reaches side a b) refl f.1 g.1 f.2 g.2

best_agrees : (side : Side) (p q : Listed Order → Bool) (xs : List (Listed Order)) → ((x : Listed Order) → p x ≡ q x) → (o : Option ℕ) → IsBestOf side p xs o → IsBestOf side q xs o
best_agrees side p q xs same None f = λ x c. sym (same x) ∙ f x c
best_agrees side p q xs same (Some e) f = (f.0, f.1, agrees (has_better side) p q xs same f.0 f.2)

-- ---- of the four restrictions
and_false : (b : Bool) → (b && false) ≡ false
and_false true = refl
and_false false = refl

and_true : (b : Bool) → (b && true) ≡ b
and_true true = refl
and_true false = refl

or_false : (b : Bool) → (b || false) ≡ b
or_false true = refl
or_false false = refl

-- an order is of one of the four
of_four : (active : Restriction → Bool) (r : Restriction) (s k : Bool)
    → (((active Free && (s && (same_restriction Free r && k))) || (active OpeningOnly && (s && (same_restriction OpeningOnly r && k))))
    || ((active AuctionsOnly && (s && (same_restriction AuctionsOnly r && k))) || (active ClosingOnly && (s && (same_restriction ClosingOnly r && k)))))
    ≡ ((active r && s) && k)
of_four active r false k = simp (and_false)
of_four active Free true k = simp (and_false, and_true, or_false)
of_four active OpeningOnly true k = simp (and_false, and_true, or_false)
of_four active AuctionsOnly true k = simp (and_false, and_true, or_false)
of_four active ClosingOnly true k = simp (and_false, and_true)

-- in continuous trading it counts only where it is free
only_free : (phase : Phase) → is_continuous phase ≡ true → (r : Restriction) (s k : Bool) → (is_active phase Free && (s && (same_restriction Free r && k))) ≡ ((is_active phase r && s) && k)
only_free Continuous e r false k = simp (and_false)
only_free Continuous e Free true k = refl
only_free Continuous e OpeningOnly true k = refl
only_free Continuous e AuctionsOnly true k = refl
only_free Continuous e ClosingOnly true k = refl
only_free PreTrading e r s k = absurd (cc)
only_free (Call auction stage) e r s k = absurd (cc)
only_free PostTrading e r s k = absurd (cc)
only_free Ended e r s k = absurd (cc)

module _ (phase : Phase) (side : Side) (test : Listed Order → Bool) (xs : List (Listed Order)) where
  module _ (continuous : is_continuous phase ≡ true) where
    pub free_alone : (x : Listed Order) → is_in phase side Free test x ≡ is_on phase side test x
    free_alone x = only_free phase continuous x.item.restriction (same_side side x.item.side) (test x)

    -- so the free orders alone give the answer
    pub earliest_free : (o : Option (Entry Order)) → IsFirstOf is_earlier (is_in phase side Free test) xs o → IsFirstOf is_earlier (is_on phase side test) xs o
    earliest_free o first = first_agrees is_earlier (is_in phase side Free test) (is_on phase side test) xs free_alone o first

    pub best_free : (toward : Side) (o : Option ℕ) → IsBestOf toward (is_in phase side Free test) xs o → IsBestOf toward (is_on phase side test) xs o
    best_free toward o first = best_agrees toward (is_in phase side Free test) (is_on phase side test) xs free_alone o first

  abbrev early : Listed Order → Bool
  early x = is_in phase side Free test x || is_in phase side OpeningOnly test x

  abbrev late : Listed Order → Bool
  late x = is_in phase side AuctionsOnly test x || is_in phase side ClosingOnly test x

  pub all_four : (x : Listed Order) → (early x || late x) ≡ is_on phase side test x
  all_four x = of_four (is_active phase) x.item.restriction (same_side side x.item.side) (test x)

  -- the earliest is the earliest of four
  pub earliest_of_four : (free opening auctions closing : Option (Entry Order))
      → IsFirstOf is_earlier (is_in phase side Free test) xs free → IsFirstOf is_earlier (is_in phase side OpeningOnly test) xs opening
      → IsFirstOf is_earlier (is_in phase side AuctionsOnly test) xs auctions → IsFirstOf is_earlier (is_in phase side ClosingOnly test) xs closing
      → IsFirstOf is_earlier (is_on phase side test) xs (earlier_of_two (earlier_of_two free opening) (earlier_of_two auctions closing))
  earliest_of_four free opening auctions closing f o a c =
      first_agrees is_earlier (λ x. early x || late x) (is_on phase side test) xs all_four (earlier_of_two (earlier_of_two free opening) (earlier_of_two auctions closing))
      (earlier-first early late xs (earlier_of_two free opening) (earlier_of_two auctions closing)
      (earlier-first (is_in phase side Free test) (is_in phase side OpeningOnly test) xs free opening f o)
      (earlier-first (is_in phase side AuctionsOnly test) (is_in phase side ClosingOnly test) xs auctions closing a c))

  -- the best limit is the best of four
  pub best_of_four : (toward : Side) (free opening auctions closing : Option ℕ)
      → IsBestOf toward (is_in phase side Free test) xs free → IsBestOf toward (is_in phase side OpeningOnly test) xs opening
      → IsBestOf toward (is_in phase side AuctionsOnly test) xs auctions → IsBestOf toward (is_in phase side ClosingOnly test) xs closing
      → IsBestOf toward (is_on phase side test) xs (better_of_two toward (better_of_two toward free opening) (better_of_two toward auctions closing))
  best_of_four toward free opening auctions closing f o a c =
      best_agrees toward (λ x. early x || late x) (is_on phase side test) xs all_four (better_of_two toward (better_of_two toward free opening) (better_of_two toward auctions closing))
      (better-best toward early late xs (better_of_two toward free opening) (better_of_two toward auctions closing)
      (better-best toward (is_in phase side Free test) (is_in phase side OpeningOnly test) xs free opening f o)
      (better-best toward (is_in phase side AuctionsOnly test) (is_in phase side ClosingOnly test) xs auctions closing a c))

-- Which order is the first in priority: the earliest of the best level.
use Rattle.std.proofs.Common.{◌≡◌, ℕ, ◌==◌, Bool, true, false, ◌&&◌, ◌||◌, not, List, Contains, Option, Some, None, refl, sym, ap, ◌∙◌, subst, arith}
use Rattle.std.specs.Prelude.{nat_le, nat_lt}
use Rattle.std.proofs.lemmas.Bool.{and_from, and_parts, both_ways, or_from}
use Rattle.std.proofs.lemmas.Bool.Decides.{nat_tests}
use Rattle.xm_book.specs.Fronts.{IsBestOf, IsFirst, IsFirstOf, goes_ahead, has_kind, has_kind_later, has_worse, is_any, is_earlier, is_on, is_worse}
use Rattle.xm_slots.specs.Listing.{listed_entry}
use Rattle.xm_slots.specs.declared.entry.Entry.{Entry}
use Rattle.xm_slots.specs.declared.listing.Listed.{Listed}
use Rattle.xm_book.proofs.Joining.{kind-is}
use Rattle.xm_book.proofs.Merging.{kinds_once}
use Rattle.xm_rules.specs.Active.{is_active}
use Rattle.xm_rules.specs.Orders.{limit_of, same_kind}
use Rattle.xm_rules.specs.Priority.{is_better}
use Rattle.xm_rules.specs.Sides.{same_side}
use Rattle.xm_rules.specs.declared.orders.OrderKind.{OrderKind}
use Rattle.xm_rules.specs.declared.orders.OrderKind.TheVariants.{Market, Limit}
use Rattle.xm_rules.specs.declared.orders.Side.{Side}
use Rattle.xm_rules.specs.declared.orders.Side.TheVariants.{Buy, Sell}
use Rattle.xm_rules.specs.declared.phases.Phase.{Phase}
use Rattle.xm_rules.specs.declared.orders.Order.{Order}

limits-same : (p q : ℕ) → not (nat_le p q) ≡ false → not (nat_le q p) ≡ false → (p == q) ≡ true
limits-same p q h i = grind (arith, nat_tests)

-- of two kinds neither of which is better there is one
pub kinds-same : (side : Side) (k l : OrderKind) → is_better side k l ≡ false → is_better side l k ≡ false → same_kind k l ≡ true
kinds-same side Market Market h i = refl
kinds-same side Market (Limit q) h i = absurd (cc)
kinds-same side (Limit p) Market h i = absurd (cc)
kinds-same Buy (Limit p) (Limit q) h i = limits-same p q h i
kinds-same Sell (Limit p) (Limit q) h i = limits-same p q i h

-- the same tests give the same first
pub first_agrees_on : (ahead : Listed Order → Listed Order → Bool) (p q : Listed Order → Bool) (xs : List (Listed Order)) → ((x : Listed Order) → Contains xs x → p x ≡ q x) → (o : Option (Entry Order))
    → IsFirstOf ahead p xs o → IsFirstOf ahead q xs o
first_agrees_on ahead p q xs same None f = λ x c. sym (same x c) ∙ f x c
first_agrees_on ahead p q xs same (Some e) f =
    let is = f.2 in
    (f.0, f.1, record { contained = is.contained; passing = sym (same f.0 is.contained) ∙ is.passing; none = λ x c h. is.none x c (same x c ∙ h) })

-- where no order that passes is of a better kind, and those of the kind pass a second test, the earliest of these is the first
pub level-first : (side : Side) (k : OrderKind) (passes at : Listed Order → Bool) (xs : List (Listed Order)) (x : Listed Order) → x.item.kind ≡ k → passes x ≡ true
    → ((y : Listed Order) → Contains xs y → passes y ≡ true → is_better side y.item.kind k ≡ false)
    → ((y : Listed Order) → Contains xs y → passes y ≡ true → same_kind k y.item.kind ≡ true → at y ≡ true)
    → IsFirst is_earlier at xs x → IsFirst (goes_ahead side) passes xs x
level-first side k passes at xs x kind t worse narrow first = record {
  contained = first.contained;
  passing = t;
  none = λ y c h.
      or_from (is_better side y.item.kind x.item.kind) (not (is_better side x.item.kind y.item.kind) && nat_lt y.time x.time) ((λ i. is_better side y.item.kind (kind i)) ∙ worse y c h)
      (behind (is_better side x.item.kind y.item.kind) (nat_lt y.time x.time)
      (λ e. first.none y c (narrow y c h (kinds-same side k y.item.kind ((λ i. is_better side (sym kind i) y.item.kind) ∙ e) (worse y c h)))));
}
  where
    behind : (b l : Bool) → (b ≡ false → l ≡ false) → (not b && l) ≡ false
    behind true l h = refl
    behind false l h = h refl

module _ (phase : Phase) (side : Side) (xs : List (Listed Order)) where
  abbrev on : Listed Order → Bool
  on x = is_active phase x.item.restriction && same_side side x.item.side

  limited-worse : (after : Option ℕ) (k l : OrderKind) → is_worse side after k ≡ true → k ≡ l → is_worse side after l ≡ true
  limited-worse after k l h e = ap (is_worse side after) (sym e) ∙ h

  same-limit : (p : ℕ) → same_kind (Limit p) (Limit p) ≡ true
  same-limit p = grind (arith, nat_tests)

  -- the earliest at the best limit is the first of those that have one
  pub limited-first : (after : Option ℕ) (p : ℕ) → IsBestOf side (is_on phase side (has_worse side after)) xs (Some p) → (o : Option (Entry Order))
      → IsFirstOf is_earlier (is_on phase side (has_kind (Limit p))) xs o → IsFirstOf (goes_ahead side) (is_on phase side (has_worse side after)) xs o
  limited-first after p best None none =
      let x = best.0 in
      let is = best.2 in
      let parts = and_parts (on x) (is_worse side after x.item.kind) is.passing in
      absurd (both_ways (is_on phase side (has_kind (Limit p)) x) (none x is.contained)
      (and_from (on x) (same_kind (Limit p) x.item.kind) parts.0 (ap (same_kind (Limit p)) best.1 ∙ same-limit p)))
  limited-first after p best (Some e) front =
      let x = front.0 in
      let at = front.2 in
      let is = best.2 in
      let parts = and_parts (on x) (same_kind (Limit p) x.item.kind) at.passing in
      let worst = and_parts (on best.0) (is_worse side after best.0.item.kind) is.passing in
      let kind : x.item.kind ≡ Limit p = sym (kind-is (Limit p) x.item.kind parts.1) in (
        x,
        front.1,
        level-first side (Limit p) (is_on phase side (has_worse side after)) (is_on phase side (has_kind (Limit p))) xs x kind
            (and_from (on x) (is_worse side after x.item.kind) parts.0 (limited-worse after best.0.item.kind x.item.kind worst.1 (best.1 ∙ sym kind)))
            (λ y c t. (λ i. is_better side y.item.kind (sym best.1 i)) ∙ is.none y c t)
            (λ y c t same. let own = and_parts (on y) (is_worse side after y.item.kind) t in and_from (on y) (same_kind (Limit p) y.item.kind) own.0 same) at,
      )

  none-better : (k : OrderKind) → is_better side k Market ≡ false
  none-better Market = refl
  none-better (Limit q) = refl

  -- the earliest market order is the first of all
  pub market-first : (e : Entry Order) → IsFirstOf is_earlier (is_on phase side (has_kind Market)) xs (Some e) → IsFirstOf (goes_ahead side) (is_on phase side is_any) xs (Some e)
  market-first e front =
      let x = front.0 in
      let at = front.2 in
      let parts = and_parts (on x) (same_kind Market x.item.kind) at.passing in (
        x,
        front.1,
        level-first side Market (is_on phase side is_any) (is_on phase side (has_kind Market)) xs x (sym (kind-is Market x.item.kind parts.1)) (and_from (on x) true parts.0 refl)
            (λ y c t. none-better y.item.kind)
            (λ y c t same. let own = and_parts (on y) true t in and_from (on y) (same_kind Market y.item.kind) own.0 same) at,
      )

  any-limit : (b : Bool) (k : OrderKind) → (b && same_kind Market k) ≡ false → (b && is_worse side None k) ≡ (b && true)
  any-limit true Market h = absurd (cc)
  any-limit true (Limit q) h = refl
  any-limit false k h = refl

  -- where there is no market order it is the first that has a limit
  pub no-market : IsFirstOf is_earlier (is_on phase side (has_kind Market)) xs None → (o : Option (Entry Order))
      → IsFirstOf (goes_ahead side) (is_on phase side (has_worse side None)) xs o → IsFirstOf (goes_ahead side) (is_on phase side is_any) xs o
  no-market none o first =
      first_agrees_on (goes_ahead side) (is_on phase side (has_worse side None)) (is_on phase side is_any) xs (λ x c. any-limit (on x) x.item.kind (none x c)) o first

  -- ---- behind an order
  kinds-itself : (k : OrderKind) → is_better side k k ≡ false
  kinds-itself k = itself (is_better side k k) (kinds_once side k k)
    where
      itself : (b : Bool) → (b ≡ true → b ≡ false) → b ≡ false
      itself true once = once refl
      itself false once = refl

  not-better : (a b l : Bool) → (a ≡ true → b ≡ false) → (a || (not b && l)) ≡ true → b ≡ false
  not-better true b l once h = once refl
  not-better false true l once h = absurd (cc)
  not-better false false l once h = refl

  is-later : (a b l : Bool) → a ≡ false → (a || (not b && l)) ≡ true → l ≡ true
  is-later true b l e h = absurd (cc)
  is-later false true l e h = absurd (cc)
  is-later false false l e h = h

  goes-by : (a b l : Bool) → b ≡ false → l ≡ true → (a || (not b && l)) ≡ true
  goes-by true b l e h = refl
  goes-by false true l e h = absurd (cc)
  goes-by false false l e h = h

  worse-better : (k l : OrderKind) → is_worse side (limit_of k) l ≡ is_better side k l
  worse-better Market l = refl
  worse-better (Limit p) l = refl

  module _ (x : Listed Order) where
    -- the earliest later one of the same kind is the first behind it
    pub later-first : (e : Entry Order) → IsFirstOf is_earlier (is_on phase side (has_kind_later x.item.kind x.time)) xs (Some e)
        → IsFirstOf (goes_ahead side) (is_on phase side (goes_ahead side x)) xs (Some e)
    later-first e front =
        let y = front.0 in
        let at = front.2 in
        let parts = and_parts (on y) (has_kind_later x.item.kind x.time y) at.passing in
        let more = and_parts (same_kind x.item.kind y.item.kind) (nat_lt x.time y.time) parts.1 in
        let kind : y.item.kind ≡ x.item.kind = sym (kind-is x.item.kind y.item.kind more.0) in (
          y,
          front.1,
          level-first side x.item.kind (is_on phase side (goes_ahead side x)) (is_on phase side (has_kind_later x.item.kind x.time)) xs y kind
              (and_from (on y) (goes_ahead side x y) parts.0
              (goes-by (is_better side x.item.kind y.item.kind) (is_better side y.item.kind x.item.kind) (nat_lt x.time y.time) ((λ i. is_better side (kind i) x.item.kind) ∙ kinds-itself x.item.kind) more.1))
              (λ z c t. not-better (is_better side x.item.kind z.item.kind) (is_better side z.item.kind x.item.kind) (nat_lt x.time z.time) (kinds_once side x.item.kind z.item.kind)
              (and_parts (on z) (goes_ahead side x z) t).1)
              (λ z c t same. let own = and_parts (on z) (goes_ahead side x z) t in
              and_from (on z) (has_kind_later x.item.kind x.time z) own.0
              (and_from (same_kind x.item.kind z.item.kind) (nat_lt x.time z.time) same
              (is-later (is_better side x.item.kind z.item.kind) (is_better side z.item.kind x.item.kind) (nat_lt x.time z.time)
              (ap (is_better side x.item.kind) (sym (kind-is x.item.kind z.item.kind same)) ∙ kinds-itself x.item.kind) own.1))) at,
        )

    behind-by : (a d s l : Bool) → (a ≡ false → d ≡ false → s ≡ true) → (s && l) ≡ false → a ≡ (a || (not d && l))
    behind-by true d s l same none = refl
    behind-by false true s l same none = refl
    behind-by false false s l same none = sym (sym (ap (λ (b : Bool). b && l) (same refl refl)) ∙ none)

    same-behind : (b : Bool) (l : OrderKind) (late : Bool) → (b && (same_kind x.item.kind l && late)) ≡ false
        → (b && is_worse side (limit_of x.item.kind) l) ≡ (b && (is_better side x.item.kind l || (not (is_better side l x.item.kind) && late)))
    same-behind true l late none =
        worse-better x.item.kind l
        ∙ behind-by (is_better side x.item.kind l) (is_better side l x.item.kind) (same_kind x.item.kind l) late (λ a d. kinds-same side x.item.kind l a d) none
    same-behind false l late none = refl

    -- where there is no later one of the kind it is the first whose limit is worse
    pub no-later : IsFirstOf is_earlier (is_on phase side (has_kind_later x.item.kind x.time)) xs None → (o : Option (Entry Order))
        → IsFirstOf (goes_ahead side) (is_on phase side (has_worse side (limit_of x.item.kind))) xs o → IsFirstOf (goes_ahead side) (is_on phase side (goes_ahead side x)) xs o
    no-later none o first =
        first_agrees_on (goes_ahead side) (is_on phase side (has_worse side (limit_of x.item.kind))) (is_on phase side (goes_ahead side x)) xs
        (λ y c. same-behind (on y) y.item.kind (nat_lt x.time y.time) (none y c)) o first

    -- behind an order that is active on the side, and behind one that isn't
    pub behind-on : on x ≡ true → (o : Option (Entry Order)) → IsFirstOf (goes_ahead side) (is_on phase side (goes_ahead side x)) xs o
        → IsFirstOf (goes_ahead side) (λ y. is_on phase side is_any x && is_on phase side (goes_ahead side x) y) xs o
    behind-on e o first =
        first_agrees_on (goes_ahead side) (is_on phase side (goes_ahead side x)) (λ y. is_on phase side is_any x && is_on phase side (goes_ahead side x) y) xs
        (λ y c. (λ i. (sym e i && true) && is_on phase side (goes_ahead side x) y)) o first

    pub behind-off : on x ≡ false → (y : Listed Order) → Contains xs y → (is_on phase side is_any x && is_on phase side (goes_ahead side x) y) ≡ false
    behind-off e y c = (λ i. (e i && true) && is_on phase side (goes_ahead side x) y)

    on-entry : (e : Entry Order) → e ≡ listed_entry x → is_active phase e.item.restriction ≡ true → e.item.side ≡ side → on x ≡ true
    on-entry e is active own =
        and_from (is_active phase x.item.restriction) (same_side side x.item.side) (ap (λ (y : Entry Order). is_active phase y.item.restriction) (sym is) ∙ active)
        (ap (λ (y : Entry Order). same_side side y.item.side) (sym is) ∙ ap (same_side side) own ∙ side-itself side)
      where
        side-itself : (s : Side) → same_side s s ≡ true
        side-itself Buy = refl
        side-itself Sell = refl

    of-entry : (e : Entry Order) → e ≡ listed_entry x → e.item.side ≡ side → (o : Option (Entry Order)) → IsFirstOf is_earlier (is_on phase e.item.side (has_kind_later e.item.kind e.time)) xs o
        → IsFirstOf is_earlier (is_on phase side (has_kind_later x.item.kind x.time)) xs o
    of-entry e is own o first =
        subst (λ (y : Entry Order). IsFirstOf is_earlier (is_on phase side (has_kind_later y.item.kind y.time)) xs o) is
        (subst (λ (s : Side). IsFirstOf is_earlier (is_on phase s (has_kind_later e.item.kind e.time)) xs o) own first)

    -- the order of an entry is followed by the earliest later one, or by the best of the next limit
    pub next-some : (e : Entry Order) → e ≡ listed_entry x → is_active phase e.item.restriction ≡ true → e.item.side ≡ side → (later : Entry Order)
        → IsFirstOf is_earlier (is_on phase e.item.side (has_kind_later e.item.kind e.time)) xs (Some later)
        → IsFirstOf (goes_ahead side) (λ y. is_on phase side is_any x && is_on phase side (goes_ahead side x) y) xs (Some later)
    next-some e is active own later first = behind-on (on-entry e is active own) (Some later) (later-first later (of-entry e is own (Some later) first))

    pub next-limited : (e : Entry Order) → e ≡ listed_entry x → is_active phase e.item.restriction ≡ true → e.item.side ≡ side
        → IsFirstOf is_earlier (is_on phase e.item.side (has_kind_later e.item.kind e.time)) xs None → (o : Option (Entry Order))
        → IsFirstOf (goes_ahead side) (is_on phase side (has_worse side (limit_of e.item.kind))) xs o
        → IsFirstOf (goes_ahead side) (λ y. is_on phase side is_any x && is_on phase side (goes_ahead side x) y) xs o
    next-limited e is active own none o first =
        behind-on (on-entry e is active own) o
        (no-later (of-entry e is own None none) o (subst (λ (y : Entry Order). IsFirstOf (goes_ahead side) (is_on phase side (has_worse side (limit_of y.item.kind))) xs o) is first))

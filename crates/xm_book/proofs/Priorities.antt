-- The first of the listed orders is the best order of the time list, and the next one the next.
use Rattle.xm_book.specs.Listing.{order_owner, order_reference}
use Rattle.xm_slots.specs.Naming.{has_name, have_own_names, key_by_name}
use Rattle.std.proofs.Common.{◌≡◌, ℕ, Bool, true, false, ◌&&◌, ◌==◌, not, List, map, filter, find, Contains, Option, Some, None, option_map, refl, sym, ap, subst, ◌∙◌}
use Rattle.std.specs.List.{list_any}
use Rattle.std.proofs.lemmas.Bool.{and_parts, and_from, both_ways, eq-eqb, eqb-true, false_from_ne_true, not-true, not_from_false}
use Rattle.xm_book.specs.Fronts.{IsFirstOf, goes_ahead, is_any, is_on}
use Rattle.xm_slots.specs.Listing.{listed_item, rises}
use Rattle.xm_book.specs.Queues.{best_order, first, first_behind, next_order, order_at}
use Rattle.xm_slots.specs.declared.entry.Entry.{Entry}
use Rattle.xm_slots.specs.declared.listing.Listed.{Listed}
use Rattle.xm_slots.proofs.Tests.{same_some, some_none}
use Rattle.xm_slots.proofs.Members.{Contains-filter, Contains-map, IsMade-map, Passes-filter, find-Some, find-None, find-none, find-only, list_any-false, list_any-none}
use Rattle.xm_book.proofs.Paired.{IsPaired, Paired, apart, contains_listed, is_paired, one_name, paired, placed_of, placed_paired, same_if_neither, same_priority}
use Rattle.xm_book.proofs.Sameness.{left-true, right-true}
use Rattle.xm_rules.specs.Active.{Positioned, active, is_active, is_active_on, positioned_from}
use Rattle.xm_rules.specs.Orders.{is_named}
use Rattle.xm_rules.specs.Priority.{is_ahead}
use Rattle.xm_rules.specs.Sides.{same_side}
use Rattle.xm_rules.specs.declared.orders.Side.{Side}
use Rattle.xm_rules.specs.declared.phases.Phase.{Phase}
use Rattle.xm_rules.specs.declared.orders.Order.{Order}

-- a list of the places of the orders that pass a test
pub record StandFor (passes : Listed Order → Bool) (xs : List (Listed Order)) (queue : List Positioned) : Type 0 where
  pub of : (i : Positioned) → Contains queue i → (z : Paired) × Contains (paired 0 xs) z × (passes z.listed ≡ true) × (placed_of z ≡ i)
  pub at : (z : Paired) → Contains (paired 0 xs) z → passes z.listed ≡ true → Contains queue (placed_of z)

-- the active orders of a side
queue_stands : (phase : Phase) (side : Side) (xs : List (Listed Order)) → StandFor (is_on phase side is_any) xs (active phase side (map listed_item xs))
queue_stands phase side xs = record {
  of = λ i c.
      let p = Passes-filter (is_active_on phase side) (positioned_from 0 (map listed_item xs)) i c in
      let m = IsMade-map placed_of (paired 0 xs) i (subst (λ (l : List Positioned). Contains l i) (placed_paired 0 xs) p.contains) in
      (m.from, m.contains, and_from (is_active phase m.from.listed.item.restriction && same_side side m.from.listed.item.side) true (ap (is_active_on phase side) m.made ∙ p.passes) refl, m.made);
  at = λ z c t.
      Contains-filter (is_active_on phase side) (positioned_from 0 (map listed_item xs)) (placed_of z)
      (left-true (is_active phase z.listed.item.restriction && same_side side z.listed.item.side) true t)
      (subst (λ (l : List Positioned). Contains l (placed_of z)) (sym (placed_paired 0 xs)) (Contains-map placed_of (paired 0 xs) z c));
}

abbrev free : Side → List Positioned → Positioned → Bool
free side queue j = not (list_any (λ (i : Positioned). is_ahead side i j) queue)

module _ (side : Side) (passes : Listed Order → Bool) (xs : List (Listed Order)) (high : ℕ) (rise : rises 0 xs high ≡ true) (queue : List Positioned) (s : StandFor passes xs queue) where
  none_ahead : (i j : Positioned) → free side queue j ≡ true → Contains queue i → is_ahead side i j ≡ false
  none_ahead i j h at = list_any-false (λ (k : Positioned). is_ahead side k j) queue i (not-true (list_any (λ (k : Positioned). is_ahead side k j) queue) h) at

  -- the first of the listed orders that pass is the first of the queue
  pub first-is : (o : Option (Entry Order)) → IsFirstOf (goes_ahead side) passes xs o → option_map (λ (e : Entry Order). e.item) o ≡ order_at (first side queue)
  first-is None none =
      sym (ap order_at (find-none (free side queue) queue
      (λ i c. let z = s.of i c in absurd (both_ways (passes z.0.listed) (none z.0.listed (contains_listed 0 xs z.0 z.1)) z.2))))
  first-is (Some e) f =
      let x = f.0 in
      let is = f.2 in
      let p = is_paired 0 xs x is.contained in
      let z = p.pair in
      let in_z : passes z.listed ≡ true = ap passes p.listed ∙ is.passing in
      let here : free side queue (placed_of z) ≡ true =
      not_from_false (list_any (λ (i : Positioned). is_ahead side i (placed_of z)) queue) (list_any-none (λ (i : Positioned). is_ahead side i (placed_of z)) queue
      (λ i c. let w = s.of i c in
      subst (λ (j : Positioned). is_ahead side j (placed_of z) ≡ false) w.3
      (sym (same_priority side w.0 z (apart 0 0 xs high w.0 z rise w.1 p.contains)) ∙ ap (goes_ahead side w.0.listed) p.listed ∙ is.none w.0.listed (contains_listed 0 xs w.0 w.1) w.2))) in
      let found : first side queue ≡ Some (placed_of z) =
      find-only (free side queue) queue (placed_of z) (record { contains = s.at z p.contains in_z; passes = here })
      (λ j c h. let w = s.of j c in
      let there : free side queue (placed_of w.0) ≡ true = subst (λ (k : Positioned). free side queue k ≡ true) (sym w.3) h in
      sym w.3 ∙ ap placed_of (same_if_neither side z w.0 (apart 0 0 xs high z w.0 rise p.contains w.1)
      (none_ahead (placed_of z) (placed_of w.0) there (s.at z p.contains in_z)) (none_ahead (placed_of w.0) (placed_of z) here (s.at w.0 w.1 w.2)))) in
      ap (λ (y : Entry Order). Some y.item) f.1 ∙ ap (λ (y : Listed Order). Some y.item) (sym p.listed) ∙ sym (ap order_at found)

-- the first is the best order
pub best-is : (phase : Phase) (side : Side) (xs : List (Listed Order)) (high : ℕ) → rises 0 xs high ≡ true → (o : Option (Entry Order)) → IsFirstOf (goes_ahead side) (is_on phase side is_any) xs o
    → option_map (λ (e : Entry Order). e.item) o ≡ best_order phase side (map listed_item xs)
best-is phase side xs high rise o first =
    first-is side (is_on phase side is_any) xs high rise (active phase side (map listed_item xs)) (queue_stands phase side xs) o first

-- ---- the next one
abbrev on : Phase → Side → Listed Order → Bool
on phase side x = is_active phase x.item.restriction && same_side side x.item.side

none_behind : (side : Side) (queue : List Positioned) (i : Option Positioned) → i ≡ None → order_at (first_behind side queue i) ≡ None
none_behind side queue i e = ap (λ (j : Option Positioned). order_at (first_behind side queue j)) e

module _ (phase : Phase) (side : Side) (xs : List (Listed Order)) where
  -- a name that no order of the list has has no next
  pub next-unknown : (member reference : ℕ) → ((x : Listed Order) → Contains xs x → has_name order_owner order_reference member reference x ≡ false) → next_order phase side member reference (map listed_item xs) ≡ None
  next-unknown member reference none =
      none_behind side (active phase side (map listed_item xs)) (find (λ (i : Positioned). is_named member reference i.order) (active phase side (map listed_item xs)))
      (find-none (λ (i : Positioned). is_named member reference i.order) (active phase side (map listed_item xs))
      (λ i c. let w = (queue_stands phase side xs).of i c in
      ap (λ (j : Positioned). is_named member reference j.order) (sym w.3) ∙ none w.0.listed (contains_listed 0 xs w.0 w.1)))

  module _ (high : ℕ) (rise : rises 0 xs high ≡ true) (names : have_own_names order_owner order_reference (map listed_item xs) ≡ true) (x : Listed Order) (c : Contains xs x) where
    abbrev p : IsPaired 0 xs x
    p = is_paired 0 xs x c

    abbrev name : Positioned → Bool
    name i = is_named x.item.member x.item.reference i.order

    -- the only one of the queue that may have its name is its own place
    own-place : (w : Paired) → Contains (paired 0 xs) w → name (placed_of w) ≡ true → w ≡ p.pair
    own-place w d named =
        one_name 0 xs p.pair w names p.contains d (ap (λ (y : Listed Order). is_named y.item.member y.item.reference w.listed.item) p.listed ∙ named)

    no-next : is_on phase side is_any x ≡ false → next_order phase side x.item.member x.item.reference (map listed_item xs) ≡ None
    no-next off =
        none_behind side (active phase side (map listed_item xs)) (find name (active phase side (map listed_item xs)))
        (find-none name (active phase side (map listed_item xs))
        (λ i d. let w = (queue_stands phase side xs).of i d in
        false_from_ne_true (name i)
        (λ h. let same = own-place w.0 w.1 (ap name w.3 ∙ h) in
        both_ways (is_on phase side is_any x) off (ap (is_on phase side is_any) (sym (ap (λ (v : Paired). v.listed) same ∙ p.listed)) ∙ w.2))))

    found-own : is_on phase side is_any x ≡ true → find name (active phase side (map listed_item xs)) ≡ Some (placed_of p.pair)
    found-own here =
        find-only name (active phase side (map listed_item xs)) (placed_of p.pair)
        (record {
          contains = (queue_stands phase side xs).at p.pair p.contains (ap (is_on phase side is_any) p.listed ∙ here);
          passes = ap (λ (y : Listed Order). is_named x.item.member x.item.reference y.item) p.listed
              ∙ and_from (x.item.member == x.item.member) (x.item.reference == x.item.reference) (eq-eqb x.item.member x.item.member refl) (eq-eqb x.item.reference x.item.reference refl);
        })
        (λ i d h. let w = (queue_stands phase side xs).of i d in sym w.3 ∙ ap placed_of (own-place w.0 w.1 (ap name w.3 ∙ h)))

    ahead-same : (w : Paired) → Contains (paired 0 xs) w → goes_ahead side x w.listed ≡ is_ahead side (placed_of p.pair) (placed_of w)
    ahead-same w d = ap (λ (y : Listed Order). goes_ahead side y w.listed) (sym p.listed) ∙ same_priority side p.pair w (apart 0 0 xs high p.pair w rise p.contains d)

    behind_stand : is_on phase side is_any x ≡ true
        → StandFor (λ y. is_on phase side is_any x && is_on phase side (goes_ahead side x) y) xs (filter (is_ahead side (placed_of p.pair)) (active phase side (map listed_item xs)))
    behind_stand here = record {
      of = λ i d.
          let at = Passes-filter (is_ahead side (placed_of p.pair)) (active phase side (map listed_item xs)) i d in
          let w = (queue_stands phase side xs).of i at.contains in (
            w.0,
            w.1,
            and_from (is_on phase side is_any x) (is_on phase side (goes_ahead side x) w.0.listed) here
                (and_from (on phase side w.0.listed) (goes_ahead side x w.0.listed) (left-true (on phase side w.0.listed) true w.2)
                (ahead-same w.0 w.1 ∙ ap (is_ahead side (placed_of p.pair)) w.3 ∙ at.passes)),
            w.3,
          );
      at = λ z d t.
          let parts = and_parts (on phase side z.listed) (goes_ahead side x z.listed) (right-true (is_on phase side is_any x) (is_on phase side (goes_ahead side x) z.listed) t) in
          Contains-filter (is_ahead side (placed_of p.pair)) (active phase side (map listed_item xs)) (placed_of z) (sym (ahead-same z d) ∙ parts.1)
          ((queue_stands phase side xs).at z d (and_from (on phase side z.listed) true parts.0 refl));
    }

    next-by : (b : Bool) → is_on phase side is_any x ≡ b → (o : Option (Entry Order)) → IsFirstOf (goes_ahead side) (λ y. is_on phase side is_any x && is_on phase side (goes_ahead side x) y) xs o
        → option_map (λ (e : Entry Order). e.item) o ≡ next_order phase side x.item.member x.item.reference (map listed_item xs)
    next-by true e o first =
        first-is side (λ y. is_on phase side is_any x && is_on phase side (goes_ahead side x) y) xs high rise (filter (is_ahead side (placed_of p.pair)) (active phase side (map listed_item xs)))
        (behind_stand e) o first
        ∙ ap (λ (i : Option Positioned). order_at (first_behind side (active phase side (map listed_item xs)) i)) (sym (found-own e))
    next-by false e None first = sym (no-next e)
    next-by false e (Some y) first =
        let is = first.2 in
        absurd (both_ways (is_on phase side is_any x) e (left-true (is_on phase side is_any x) (is_on phase side (goes_ahead side x) first.0) is.passing))

    named-same : (member reference : ℕ) → has_name order_owner order_reference member reference x ≡ true
        → next_order phase side x.item.member x.item.reference (map listed_item xs) ≡ next_order phase side member reference (map listed_item xs)
    named-same member reference h =
        let parts = and_parts (x.item.member == member) (x.item.reference == reference) h in
        (λ i. next_order phase side (eqb-true x.item.member member parts.0 i) (eqb-true x.item.reference reference parts.1 i) (map listed_item xs))

    -- the first behind an order of a name is the next order
    pub next-is : (member reference : ℕ) → has_name order_owner order_reference member reference x ≡ true → (o : Option (Entry Order))
        → IsFirstOf (goes_ahead side) (λ y. is_on phase side is_any x && is_on phase side (goes_ahead side x) y) xs o
        → option_map (λ (e : Entry Order). e.item) o ≡ next_order phase side member reference (map listed_item xs)
    next-is member reference h o first = next-by (is_on phase side is_any x) refl o first ∙ named-same member reference h

-- ---- the order of a name
pub key-none : (member reference : ℕ) (xs : List (Listed Order)) → None ≡ key_by_name order_owner order_reference member reference xs → (x : Listed Order) → Contains xs x → has_name order_owner order_reference member reference x ≡ false
key-none member reference xs e x c = find-None (has_name order_owner order_reference member reference) xs x (none_by (find (has_name order_owner order_reference member reference) xs) e) c
  where
    none_by : (o : Option (Listed Order)) → None ≡ option_map (λ (y : Listed Order). y.key) o → o ≡ None
    none_by None e = refl
    none_by (Some y) e = absurd (some_none (sym e))

pub key-some : (member reference key : ℕ) (xs : List (Listed Order)) → Some key ≡ key_by_name order_owner order_reference member reference xs → (x : Listed Order) × Contains xs x × (has_name order_owner order_reference member reference x ≡ true) × (x.key ≡ key)
key-some member reference key xs e = some_by (find (has_name order_owner order_reference member reference) xs) refl e
  where
    some_by : (o : Option (Listed Order)) → find (has_name order_owner order_reference member reference) xs ≡ o → Some key ≡ option_map (λ (y : Listed Order). y.key) o
        → (x : Listed Order) × Contains xs x × (has_name order_owner order_reference member reference x ≡ true) × (x.key ≡ key)
    some_by None f e = absurd (some_none e)
    some_by (Some y) f e = let found = find-Some (has_name order_owner order_reference member reference) xs y f in (y, found.contains, found.passes, sym (same_some e))

-- The best limit of the active orders of a side, as the rules say it.
use Rattle.xm_slots.specs.Listing.{listed_item}
use Rattle.std.proofs.Common.{◌≡◌, ℕ, ◌+◌, true, ◌&&◌, List, [], ◌∷◌, filter, map, Contains, Option, Some, None, option_map, refl, sym, ap, ◌∙◌, subst}
use Rattle.std.proofs.lemmas.Bool.{and_parts, and_from, both_ways, not-false}
use Rattle.xm_book.specs.Curves.{worst_within}
use Rattle.xm_book.specs.Fronts.{IsBestOf, has_worse, is_kind_within, is_on, is_worse, lies_within}
use Rattle.xm_book.specs.Queues.{level_after, limits_after, units_at}
use Rattle.xm_book.proofs.Bests.{best-is, best-none}
use Rattle.xm_book.proofs.Curves.{in_after, of_after}
use Rattle.xm_slots.specs.declared.listing.Listed.{Listed}
use Rattle.xm_ladders.specs.Ladder.{is_within}
use Rattle.xm_slots.proofs.Members.{Contains-filter, Contains-filter_map, Contains-map, IsGiven-filter_map, IsMade-map, Passes-filter}
use Rattle.xm_rules.specs.Active.{Positioned, active, is_active, is_active_on, limits, positioned_from}
use Rattle.xm_rules.specs.Orders.{limit_of}
use Rattle.xm_rules.specs.Priority.{is_better}
use Rattle.xm_rules.specs.Sides.{best, opposite, reaches, same_side}
use Rattle.xm_rules.specs.declared.orders.Order.{Order}
use Rattle.xm_rules.specs.declared.orders.OrderKind.{OrderKind}
use Rattle.xm_rules.specs.declared.orders.OrderKind.TheVariants.{Market, Limit}
use Rattle.xm_rules.specs.declared.orders.Side.{Side}
use Rattle.xm_rules.specs.declared.phases.Phase.{Phase}

-- ---- which limits there are
pub limit_is : (kind : OrderKind) (p : ℕ) → limit_of kind ≡ Some p → kind ≡ Limit p
limit_is Market p e = absurd (cc)
limit_is (Limit q) p e = cc

orders_placed : (n : ℕ) (os : List Order) → map (λ (i : Positioned). i.order) (positioned_from n os) ≡ os
orders_placed n [] = refl
orders_placed n (o ∷ os) = ap (λ (l : List Order). o ∷ l) (orders_placed (n + 1) os)

module _ (phase : Phase) (side : Side) (xs : List (Listed Order)) where
  abbrev pub queue : List Positioned
  queue = active phase side (map listed_item xs)

  -- an active order of the list is placed in the queue, and what is placed there is one
  pub placed : (x : Listed Order) → Contains xs x → (is_active phase x.item.restriction && same_side side x.item.side) ≡ true → (i : Positioned) × Contains queue i × (i.order ≡ x.item)
  placed x c t =
      let made = IsMade-map (λ (i : Positioned). i.order) (positioned_from 0 (map listed_item xs)) x.item
      (subst (λ (os : List Order). Contains os x.item) (sym (orders_placed 0 (map listed_item xs))) (Contains-map listed_item xs x c)) in (
        made.from,
        Contains-filter (is_active_on phase side) (positioned_from 0 (map listed_item xs)) made.from
            (ap (λ (o : Order). is_active phase o.restriction && same_side side o.side) made.made ∙ t) made.contains,
        made.made,
      )

  pub listed-at : (i : Positioned) → Contains queue i → (x : Listed Order) × Contains xs x × (x.item ≡ i.order) × ((is_active phase x.item.restriction && same_side side x.item.side) ≡ true)
  listed-at i c =
      let p = Passes-filter (is_active_on phase side) (positioned_from 0 (map listed_item xs)) i c in
      let made = IsMade-map listed_item xs i.order
      (subst (λ (os : List Order). Contains os i.order) (orders_placed 0 (map listed_item xs)) (Contains-map (λ (j : Positioned). j.order) (positioned_from 0 (map listed_item xs)) i p.contains)) in
      (made.from, made.contains, made.made, ap (λ (o : Order). is_active phase o.restriction && same_side side o.side) made.made ∙ p.passes)

  limit-in : (x : Listed Order) (p : ℕ) → Contains xs x → (is_active phase x.item.restriction && same_side side x.item.side) ≡ true → x.item.kind ≡ Limit p → Contains (limits queue) p
  limit-in x p c t e =
      let at = placed x c t in
      Contains-filter_map (λ (i : Positioned). limit_of i.order.kind) queue at.0 p (ap (λ (o : Order). limit_of o.kind) at.2 ∙ ap limit_of e) at.1

  limit-out : (p : ℕ) → Contains (limits queue) p → (x : Listed Order) × Contains xs x × ((is_active phase x.item.restriction && same_side side x.item.side) ≡ true) × (x.item.kind ≡ Limit p)
  limit-out p c =
      let given = IsGiven-filter_map (λ (i : Positioned). limit_of i.order.kind) queue p c in
      let at = listed-at given.from given.contains in
      (at.0, at.1, at.3, limit_is at.0.item.kind p (ap (λ (o : Order). limit_of o.kind) at.2 ∙ given.given))

  module _ (after : Option ℕ) where
    -- an active order that passes has one of these limits, and each of them is that of one
    limit-there : (p : ℕ) → Contains (limits_after side after queue) p → (x : Listed Order) × Contains xs x × (is_on phase side (has_worse side after) x ≡ true) × (x.item.kind ≡ Limit p)
    limit-there p c =
        let at = of_after side after queue p c in
        let x = limit-out p at.0 in
        (x.0, x.1, and_from (is_active phase x.0.item.restriction && same_side side x.0.item.side) (is_worse side after x.0.item.kind) x.2 (ap (is_worse side after) x.3 ∙ at.1), x.3)

    pub best-limit : (o : Option ℕ) → IsBestOf side (is_on phase side (has_worse side after)) xs o → o ≡ best side (limits_after side after queue)
    best-limit None none =
        sym (best-none side (limits_after side after queue) (λ p c. let x = limit-there p c in both_ways (is_on phase side (has_worse side after) x.0) (none x.0 x.1) x.2))
    best-limit (Some p) first =
        let x = first.0 in
        let kind = first.1 in
        let is = first.2 in
        let parts = and_parts (is_active phase x.item.restriction && same_side side x.item.side) (is_worse side after x.item.kind) is.passing in
        sym (best-is side (limits_after side after queue) p (record {
          there = in_after side after queue p (limit-in x p is.contained parts.0 kind) (ap (is_worse side after) (sym kind) ∙ parts.1);
          reaches_all = λ q c.
              let y = limit-there q c in
              not-false (reaches side p q) ((λ i. is_better side (sym y.3 i) (sym kind i)) ∙ is.none y.0 y.1 y.2);
        }))

    -- the level after a limit
    pub level-there : (p : ℕ) → Some p ≡ best side (limits_after side after queue) → (units : ℕ) → units ≡ units_at (Limit p) queue → Some (p, units) ≡ level_after phase side after (map listed_item xs)
    level-there p e units u = ap (λ (n : ℕ). let pair : ℕ × ℕ = (p, n) in Some pair) u ∙ ap (option_map (λ (n : ℕ). let pair : ℕ × ℕ = (n, units_at (Limit n) queue) in pair)) e

    pub level-none : None ≡ best side (limits_after side after queue) → None ≡ level_after phase side after (map listed_item xs)
    level-none e = ap (option_map (λ (n : ℕ). let pair : ℕ × ℕ = (n, units_at (Limit n) queue) in pair)) e

  -- ---- the worst limit within a bound
  module _ (bound : ℕ) where
    abbrev within : List ℕ
    within = filter (is_within side bound) (limits queue)

    within-there : (p : ℕ) → Contains within p → (x : Listed Order) × Contains xs x × (is_on phase side (lies_within side bound) x ≡ true) × (x.item.kind ≡ Limit p)
    within-there p c =
        let at = Passes-filter (is_within side bound) (limits queue) p c in
        let x = limit-out p at.contains in
        (x.0, x.1, and_from (is_active phase x.0.item.restriction && same_side side x.0.item.side) (is_kind_within side bound x.0.item.kind) x.2 (ap (is_kind_within side bound) x.3 ∙ at.passes), x.3)

    pub worst-limit : (o : Option ℕ) → IsBestOf (opposite side) (is_on phase side (lies_within side bound)) xs o → o ≡ worst_within phase side bound (map listed_item xs)
    worst-limit None none =
        sym (best-none (opposite side) within (λ p c. let x = within-there p c in both_ways (is_on phase side (lies_within side bound) x.0) (none x.0 x.1) x.2))
    worst-limit (Some p) first =
        let x = first.0 in
        let kind = first.1 in
        let is = first.2 in
        let parts = and_parts (is_active phase x.item.restriction && same_side side x.item.side) (is_kind_within side bound x.item.kind) is.passing in
        sym (best-is (opposite side) within p (record {
          there = Contains-filter (is_within side bound) (limits queue) p (ap (is_kind_within side bound) (sym kind) ∙ parts.1) (limit-in x p is.contained parts.0 kind);
          reaches_all = λ q c.
              let y = within-there q c in
              not-false (reaches (opposite side) p q) ((λ i. is_better (opposite side) (sym y.3 i) (sym kind i)) ∙ is.none y.0 y.1 y.2);
        }))

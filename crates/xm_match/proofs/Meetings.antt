-- An incoming order meets an order of the other side where it meets the best one.
use Rattle.std.proofs.Common.{◌≡◌, Bool, true, false, List, [], ◌∷◌, option_map, Option, Contains, refl, sym, ap, subst, ◌∙◌, ◌⊎◌, inl, inr}
use Rattle.std.specs.List.{list_any}
use Rattle.std.proofs.lemmas.Bool.{both_ways, false_from_ne_true}
use Rattle.xm_book.proofs.Firsts.{first_is, one_or_ahead}
use Rattle.xm_book.specs.Queues.{first, order_at}
use Rattle.xm_match.proofs.Cuts.{least_of}
use Rattle.xm_match.proofs.Lists.{any_of_one}
use Rattle.xm_match.specs.Meeting.{meets_any, meets_kind}
use Rattle.xm_rules.proofs.AfterSweeps.{kinds_met}
use Rattle.xm_rules.proofs.Positions.{Rising, rising_active}
use Rattle.xm_rules.specs.Active.{Positioned, active}
use Rattle.xm_rules.specs.Crossing.{would_execute}
use Rattle.xm_rules.specs.Orders.{meets}
use Rattle.xm_rules.specs.Priority.{is_ahead}
use Rattle.xm_rules.specs.Sides.{opposite}
use Rattle.xm_rules.specs.declared.orders.Order.{Order}
use Rattle.xm_rules.specs.declared.orders.Side.{Side}
use Rattle.xm_rules.specs.declared.phases.Phase.TheVariants.{Continuous}
use Rattle.xm_slots.proofs.Members.{list_any-none}

module _ (orders : List Order) (o : Order) where
  abbrev side : Side
  side = opposite o.side

  abbrev queue : List Positioned
  queue = active Continuous side orders

  abbrev met : Positioned → Bool
  met i = meets o.side o.kind i.order.kind

  abbrev meets_first : Option Positioned → Bool
  meets_first found = meets_kind o (option_map (λ (x : Order). x.kind) (order_at found))

  rising : Rising queue
  rising = rising_active Continuous side orders

  by_best : (m : Positioned) → Contains queue m → ((i : Positioned) → Contains queue i → is_ahead side i m ≡ false) → (b : Bool) → met m ≡ b → list_any met queue ≡ met m
  by_best m at none true e = any_of_one met queue m e at ∙ sym e
  by_best m at none false e = list_any-none met queue (λ i to. unmet i to (one_or_ahead side queue rising m i at to)) ∙ sym e
    where
      unmet : (i : Positioned) → Contains queue i → (m ≡ i) ⊎ ((is_ahead side m i ≡ true) ⊎ (is_ahead side i m ≡ true)) → met i ≡ false
      unmet i to (inl same) = ap met (sym same) ∙ e
      unmet i to (inr (inl h)) =
          false_from_ne_true (met i) (λ f. both_ways (met m) e (kinds_met o.side o.kind m.order.kind m.position i.order.kind i.position h f))
      unmet i to (inr (inr h)) = absurd (both_ways (is_ahead side i m) (none i to) h)

  by_queue : (q : List Positioned) → queue ≡ q → list_any met queue ≡ meets_first (first side queue)
  by_queue [] e = ap (list_any met) e ∙ sym (ap (λ (q : List Positioned). meets_first (first side q)) e)
  by_queue (x ∷ xs) e =
      let least = least_of side x xs in
      let at : Contains queue least.0 = subst (λ (q : List Positioned). Contains q least.0) (sym e) least.1.contained in
      let none : (i : Positioned) → Contains queue i → is_ahead side i least.0 ≡ false = λ i to. least.1.none i (subst (λ (q : List Positioned). Contains q i) e to) in
      by_best least.0 at none (met least.0) refl ∙ sym (ap meets_first (first_is side queue rising least.0 at none))

  pub meets-any : meets_any orders o ≡ would_execute orders o.side o.kind
  meets-any = sym (by_queue queue refl)

-- The kind of the best order: the market orders', or that of the best limit.
use Rattle.std.proofs.Common.{◌≡◌, ℕ, Bool, true, ◌&&◌, List, [], ◌∷◌, filter, Contains, Option, Some, None, option_map, refl, sym, ap, ◌∙◌, subst}
use Rattle.std.proofs.lemmas.Bool.{and_parts, both_ways, false_from_ne_true}
use Rattle.xm_book.specs.Fronts.{IsBestOf, IsFirst, IsFirstOf, IsKindOfFirst, goes_ahead, has_kind, has_worse, is_any, is_earlier, is_on}
use Rattle.xm_slots.specs.Listing.{listed_entry, rises}
use Rattle.xm_slots.specs.declared.entry.Entry.{Entry}
use Rattle.xm_slots.specs.declared.listing.Listed.{Listed}
use Rattle.xm_book.proofs.Heading.{limited-first, market-first, no-market}
use Rattle.xm_book.proofs.Joining.{kind-is}
use Rattle.xm_slots.proofs.Members.{Contains-filter, Contains-here, Contains-none, Passes-filter}
use Rattle.xm_book.proofs.Standing.{earliest-head, rises-kept}
use Rattle.xm_rules.specs.Active.{is_active}
use Rattle.xm_rules.specs.Orders.{same_kind}
use Rattle.xm_rules.specs.Sides.{same_side}
use Rattle.xm_rules.specs.declared.orders.Order.{Order}
use Rattle.xm_rules.specs.declared.orders.OrderKind.{OrderKind}
use Rattle.xm_rules.specs.declared.orders.OrderKind.TheVariants.{Market, Limit}
use Rattle.xm_rules.specs.declared.orders.Side.{Side}
use Rattle.xm_rules.specs.declared.phases.Phase.{Phase}

-- of a list whose times rise, those that pass a test have an earliest one
earliest-in : (p : Listed Order → Bool) (xs : List (Listed Order)) (adds : ℕ) → rises 0 xs adds ≡ true → (ms : List (Listed Order)) → filter p xs ≡ ms → (o : Option (Entry Order)) × IsFirstOf is_earlier p xs o
earliest-in p xs adds rise [] e =
    (None, λ x c. false_from_ne_true (p x) (λ t. Contains-none x (subst (λ (ys : List (Listed Order)). Contains ys x) e (Contains-filter p xs x t c))))
earliest-in p xs adds rise (m ∷ ms) e =
    let at = Passes-filter p xs m (subst (λ (ys : List (Listed Order)). Contains ys m) (sym e) (Contains-here m ms)) in
    let rising : rises 0 (m ∷ ms) adds ≡ true = ap (λ (ys : List (Listed Order)). rises 0 ys adds) (sym e) ∙ rises-kept p 0 xs adds rise in
    let first : IsFirst is_earlier p xs m = record {
      contained = at.contains;
      passing = at.passes;
      none = λ y c t. earliest-head 0 m ms adds y rising (subst (λ (ys : List (Listed Order)). Contains ys y) e (Contains-filter p xs y t c));
    } in
    (Some (listed_entry m), (m, refl, first))

-- the kind of the order of an entry
pub order-kind : (o : Option (Entry Order)) → option_map (λ (e : Entry Order). e.item.kind) o ≡ option_map (λ (x : Order). x.kind) (option_map (λ (e : Entry Order). e.item) o)
order-kind None = refl
order-kind (Some e) = refl

module _ (phase : Phase) (side : Side) (xs : List (Listed Order)) where
  abbrev on : Listed Order → Bool
  on x = is_active phase x.item.restriction && same_side side x.item.side

  -- the first of those of a kind has that kind
  own-kind : (kind : OrderKind) (e : Entry Order) → IsFirstOf is_earlier (is_on phase side (has_kind kind)) xs (Some e) → kind ≡ e.item.kind
  own-kind kind e f =
      let x = f.0 in
      let is = f.2 in
      kind-is kind x.item.kind (and_parts (on x) (same_kind kind x.item.kind) is.passing).1 ∙ ap (λ (y : Entry Order). y.item.kind) (sym f.1)

  pub market-kind : (e : Entry Order) → IsFirstOf is_earlier (is_on phase side (has_kind Market)) xs (Some e) → IsKindOfFirst (goes_ahead side) (is_on phase side is_any) xs (Some Market)
  market-kind e f = (Some e, market-first phase side xs e f, ap Some (own-kind Market e f))

  module _ (none : IsFirstOf is_earlier (is_on phase side (has_kind Market)) xs None) (adds : ℕ) (rise : rises 0 xs adds ≡ true) where
    limit-by : (p : ℕ) → IsBestOf side (is_on phase side (has_worse side None)) xs (Some p) → (o : Option (Entry Order))
        → IsFirstOf is_earlier (is_on phase side (has_kind (Limit p))) xs o → IsKindOfFirst (goes_ahead side) (is_on phase side is_any) xs (Some (Limit p))
    limit-by p best None f =
        let is = best.2 in
        absurd (both_ways (is_on phase side (has_worse side None) best.0) (limited-first phase side xs None p best None f best.0 is.contained) is.passing)
    limit-by p best (Some e) f =
        (Some e, no-market phase side xs none (Some e) (limited-first phase side xs None p best (Some e) f), ap Some (own-kind (Limit p) e f))

    -- where there is no market order it is that of the best limit
    pub limit-kind : (limit : Option ℕ) → IsBestOf side (is_on phase side (has_worse side None)) xs limit
        → IsKindOfFirst (goes_ahead side) (is_on phase side is_any) xs (option_map Limit limit)
    limit-kind None best = (None, no-market phase side xs none None best, refl)
    limit-kind (Some p) best =
        let at = is_on phase side (has_kind (Limit p)) in
        let front = earliest-in at xs adds rise (filter at xs) refl in
        limit-by p best front.0 front.1

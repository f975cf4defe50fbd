-- What the entries have that a security takes.
use Rattle.std.proofs.Common.{◌≡◌, ℕ, ◌+◌, ◌<◌, ◌≤◌, ◌==◌, Bool, true, false, not, ◌&&◌, cond, List, [], ◌∷◌, length, map, sum_by, All, refl, sym, ap, ap₂, ◌∙◌, arith}
use Rattle.std.specs.List.{list_all, list_any}
use Rattle.std.specs.Prelude.{nat_le, nat_lt}
use Rattle.std.proofs.lemmas.Bool.{and_parts, eqb-true}
use Rattle.std.proofs.lemmas.Bool.Decides.{nat_tests}
use Rattle.std.proofs.lemmas.List.Elements.{All-cons, All-nil}
use Rattle.std.proofs.lemmas.List.Sums.{sum_by-append, sum_by-cons}
use Rattle.xm_rules.specs.Commands.{is_in_range}
use Rattle.xm_rules.specs.Entries.{are_distinct, is_same_name, names, order_name, stop_name}
use Rattle.xm_rules.specs.Opening.{are_carriable, is_carriable, is_carriable_stop, is_lasting}
use Rattle.xm_rules.specs.Orders.{limit_of}
use Rattle.xm_rules.specs.Refusals.{is_given_in_range}
use Rattle.xm_rules.specs.Settling.{order_of_stop}
use Rattle.xm_rules.specs.declared.carried.TheConstants.{MAX_CARRIED}
use Rattle.xm_rules.specs.declared.orders.Order.{Order}
use Rattle.xm_rules.specs.declared.orders.Stop.{Stop}
use Rattle.xm_rules.specs.declared.settings.DeskSettings.{DeskSettings}
use Rattle.xm_rules.proofs.OneName.{count-none, named, stop_named}
use Rattle.xm_rules.proofs.Orderings.{sum-map}

-- an order that may have been left, and a stop
pub record CanBeCarried (members : ℕ) (o : Order) : Type 0 where
  pub known : o.member < members
  pub units : is_in_range o.rest ≡ true
  pub limit : is_given_in_range (limit_of o.kind) ≡ true
  pub lasts : is_lasting o.validity ≡ true

pub record CanBeHeld (members : ℕ) (stop : Stop) : Type 0 where
  pub trigger : is_in_range stop.trigger ≡ true
  pub order : CanBeCarried members (order_of_stop stop)

-- the entries of a security's settings
pub record AreCarriable (settings : DeskSettings) : Type 0 where
  pub few : length settings.carried.orders + length settings.carried.stops ≤ MAX_CARRIED
  pub orders : All (CanBeCarried settings.members) settings.carried.orders
  pub stops : All (CanBeHeld settings.members) settings.carried.stops
  pub names : are_distinct (names settings.carried) ≡ true

is_below : (a b : ℕ) → nat_lt a b ≡ true → a < b
is_below a b e = grind (arith, nat_tests)

is_within : (a b : ℕ) → nat_le a b ≡ true → a ≤ b
is_within a b e = grind (arith, nat_tests)

passes : (members : ℕ) (o : Order) → is_carriable members o ≡ true → CanBeCarried members o
passes members o e =
    let last = and_parts (nat_lt o.member members && is_in_range o.rest && is_given_in_range (limit_of o.kind)) (is_lasting o.validity) e in
    let third = and_parts (nat_lt o.member members && is_in_range o.rest) (is_given_in_range (limit_of o.kind)) last.0 in
    let first = and_parts (nat_lt o.member members) (is_in_range o.rest) third.0 in
    record { known = is_below o.member members first.0; units = first.1; limit = third.1; lasts = last.1 }

stop_passes : (members : ℕ) (stop : Stop) → is_carriable_stop members stop ≡ true → CanBeHeld members stop
stop_passes members stop e =
    let parts = and_parts (is_in_range stop.trigger) (is_carriable members (order_of_stop stop)) e in
    record { trigger = parts.0; order = passes members (order_of_stop stop) parts.1 }

each : {X : Type 0} (p : X → Bool) (P : X → Type 0) → ((x : X) → p x ≡ true → P x) → (xs : List X) → list_all p xs ≡ true → All P xs
each p P gives [] e = All-nil P
each p P gives (x ∷ xs) e = let parts = and_parts (p x) (list_all p xs) e in All-cons P x xs (gives x parts.0) (each p P gives xs parts.1)

pub carriable-parts : (settings : DeskSettings) → are_carriable settings ≡ true → AreCarriable settings
carriable-parts settings e =
    let entries = settings.carried in
    let count = nat_le (length entries.orders + length entries.stops) MAX_CARRIED in
    let orders = list_all (is_carriable settings.members) entries.orders in
    let stops = list_all (is_carriable_stop settings.members) entries.stops in
    let last = and_parts (count && orders && stops) (are_distinct (names entries)) e in
    let third = and_parts (count && orders) stops last.0 in
    let first = and_parts count orders third.0 in
    record {
      few = is_within (length entries.orders + length entries.stops) MAX_CARRIED first.0;
      orders = each (is_carriable settings.members) (CanBeCarried settings.members) (passes settings.members) entries.orders first.1;
      stops = each (is_carriable_stop settings.members) (CanBeHeld settings.members) (stop_passes settings.members) entries.stops third.1;
      names = last.1;
    }

-- ---- each name is used once
module _ (member reference : ℕ) where
  abbrev is_it : ℕ × ℕ → Bool
  is_it name = is_same_name (member, reference) name

  abbrev it : ℕ × ℕ → ℕ
  it name = cond (is_it name) 1 0

  own : (name : ℕ × ℕ) → is_it name ≡ true → name ≡ (member, reference)
  own name e =
      let parts = and_parts (name.0 == member) (name.1 == reference) e in
      ap₂ (λ (m r : ℕ). (m, r)) (eqb-true name.0 member parts.0) (eqb-true name.1 reference parts.1)

  once_if : (b : Bool) (n : ℕ) → (b ≡ true → n ≡ 0) → n ≤ 1 → cond b 1 0 + n ≤ 1
  once_if true n none few = let e = none refl in omega arith
  once_if false n none few = omega arith

  was_false : (b : Bool) → not b ≡ true → b ≡ false
  was_false true e = absurd (cc)
  was_false false e = refl

  once : (ns : List (ℕ × ℕ)) → are_distinct ns ≡ true → sum_by it ns ≤ 1
  once [] h = omega arith
  once (name ∷ more) h =
      let parts = and_parts (not (list_any (is_same_name name) more)) (are_distinct more) h in
      let others = was_false (list_any (is_same_name name) more) parts.0 in
      omega (
        arith,
        sum_by-cons it name more,
        once_if (is_it name) (sum_by it more) (λ e. count-none is_it more (ap (λ (n : ℕ × ℕ). list_any (is_same_name n) more) (sym (own name e)) ∙ others)) (once more parts.1),
      )

  -- no two entries have this name
  pub used_once : (settings : DeskSettings) → are_carriable settings ≡ true
      → sum_by (named member reference) settings.carried.orders + sum_by (stop_named member reference) settings.carried.stops ≤ 1
  used_once settings h =
      let entries = settings.carried in
      omega (
        arith,
        once (names entries) (carriable-parts settings h).names,
        sum_by-append it (map order_name entries.orders) (map stop_name entries.stops),
        sum-map it order_name entries.orders,
        sum-map it stop_name entries.stops,
      )

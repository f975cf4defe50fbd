-- Where at most one order has a name: what is found by the name is all that it has.
use Rattle.std.proofs.Common.{◌≡◌, ℕ, ◌+◌, ◌-◌, ◌≤◌, Bool, true, false, if◌then◌else◌, cond, List, [], ◌∷◌, find, map, sum_by, Some, refl, sym, ◌∙◌, arith}
use Rattle.std.specs.Prelude.{nat_lt}
use Rattle.std.proofs.lemmas.List.Sums.{sum_by-cons}
use Rattle.xm_events.specs.Story.{rest_in, rest_of_found}
use Rattle.xm_rules.specs.Active.{Positioned, positioned_from}
use Rattle.xm_rules.specs.Orders.{is_named}
use Rattle.xm_rules.specs.Priority.{without_units}
use Rattle.xm_rules.specs.declared.orders.Order.{Order}
use Rattle.xm_rules.proofs.OneName.{named}
use Rattle.xm_rules.proofs.Orderings.{sum-map}
use Rattle.xm_rules.proofs.SettledSums.{part}
use Rattle.xm_events.proofs.NamedUnits.{order_units, sum-placed}
use Rattle.xm_events.proofs.TestedSums.{sum-uncounted}

module _ (member reference : ℕ) where
  rest_if : (o : Order) (os : List Order) (b : Bool) → cond b 1 0 + sum_by (named member reference) os ≤ 1
      → (sum_by (named member reference) os ≤ 1 → rest_in os member reference ≡ sum_by (order_units member reference) os)
      → rest_of_found (cond b (Some o) (find (is_named member reference) os)) ≡ (if b then o.rest else 0) + sum_by (order_units member reference) os
  rest_if o os true l later =
      let none = sum-uncounted (is_named member reference) (λ (x : Order). x.rest) os (omega arith) in
      omega (arith, none)
  rest_if o os false l later = let e = later (omega arith) in omega (arith, e)

  -- the rest of the order of a name is all that orders of the name have
  pub rest_is_all : (os : List Order) → sum_by (named member reference) os ≤ 1 → rest_in os member reference ≡ sum_by (order_units member reference) os
  rest_is_all [] l = refl
  rest_is_all (o ∷ os) l =
      rest_if o os (is_named member reference o) (omega (arith, l, sum_by-cons (named member reference) o os)) (rest_is_all os)
      ∙ sym (sum_by-cons (order_units member reference) o os)

  -- taking units from orders makes no more of a name
  pub no_more_named : (take : Positioned → ℕ) (os : List Order) → sum_by (named member reference) (without_units take os) ≤ sum_by (named member reference) os
  no_more_named take os =
      let lessened = λ (i : Positioned). (let o = i.order in let p : Order = record o { rest = o.rest - take i } in p) in
      let ps = positioned_from 0 os in
      omega (
        arith,
        part (named member reference) (λ (o : Order). nat_lt 0 o.rest) (map lessened ps),
        sum-map (named member reference) lessened ps,
        sum-placed (named member reference) 0 os,
      )

-- What is taken from a time list, and what is left in it.
use Rattle.std.proofs.Common.{◌≡◌, ℕ, ◌+◌, ◌-◌, ◌≤◌, if◌then◌else◌, List, [], ◌∷◌, map, sum_by, refl, ◌∙◌, arith}
use Rattle.std.specs.Prelude.{nat_lt}
use Rattle.std.proofs.lemmas.Bool.Decides.{nat_tests}
use Rattle.std.proofs.lemmas.List.Sums.{sum_by-cons}
use Rattle.xm_rules.specs.Active.{Positioned, positioned_from}
use Rattle.xm_rules.specs.Priority.{without_units}
use Rattle.xm_rules.specs.declared.orders.Order.{Order}
use Rattle.xm_rules.proofs.Orderings.{sum-map, sum-filter}
use Rattle.xm_rules.proofs.Queues.{units}
use Rattle.xm_rules.proofs.Sums.{sum-add, sum-each}

abbrev pub rest_of : Order → ℕ
rest_of o = o.rest

sum_placed : (position : ℕ) (os : List Order) → sum_by units (positioned_from position os) ≡ sum_by rest_of os
sum_placed position [] = refl
sum_placed position (o ∷ os) =
    omega (arith, sum_by-cons units (record { position = position; order = o }) (positioned_from (position + 1) os), sum_by-cons rest_of o os, sum_placed (position + 1) os)

some_part : (n : ℕ) → ◌≡◌ {A = ℕ} (if nat_lt 0 n then n else 0) n
some_part n = grind (arith, nat_tests)

left : (taken : Positioned → ℕ) (orders : List Order) → sum_by rest_of (without_units taken orders) ≡ sum_by (λ (i : Positioned). units i - taken i) (positioned_from 0 orders)
left taken orders =
    let lessened = λ (i : Positioned). (let o = i.order in record o { rest = o.rest - taken i }) in
    let os = map lessened (positioned_from 0 orders) in
    sum-filter rest_of (λ (o : Order). nat_lt 0 o.rest) os ∙ sum-each (λ (o : Order). if nat_lt 0 o.rest then rest_of o else 0) rest_of os (λ o. some_part o.rest)
    ∙ sum-map rest_of lessened (positioned_from 0 orders)

-- the units that are left and those that were taken are those that were there
pub left_and_taken : (taken : Positioned → ℕ) (orders : List Order) → ((i : Positioned) → taken i ≤ units i)
    → sum_by rest_of (without_units taken orders) + sum_by taken (positioned_from 0 orders) ≡ sum_by rest_of orders
left_and_taken taken orders h =
    let os = positioned_from 0 orders in
    let split = sum-add (λ (i : Positioned). units i - taken i) taken os in
    let whole : sum_by (λ (i : Positioned). (units i - taken i) + taken i) os ≡ sum_by units os =
    sum-each (λ (i : Positioned). (units i - taken i) + taken i) units os (λ i. omega (arith, h i)) in
    omega (arith, left taken orders, sum_placed 0 orders)

-- How many orders there are after units were taken from one of a time list.
use Rattle.std.proofs.Common.{◌≡◌, ℕ, ◌-◌, ◌<◌, ◌≤◌, Bool, true, false, not, ◌==◌, if◌then◌else◌, List, [], ◌∷◌, length, Contains, Option, Some, None, refl, ap, ◌∙◌, arith}
use Rattle.std.specs.List.{list_any}
use Rattle.std.proofs.lemmas.Bool.{both_ways, eq-eqb, true_from_ne_false}
use Rattle.xm_book.specs.Queues.{best_order, taken_from_any, taken_from_best}
use Rattle.xm_slots.proofs.Members.{list_any-false}
use Rattle.xm_book.proofs.Named.{fewer-left}
use Rattle.xm_slots.proofs.Tests.{length-kept}
use Rattle.xm_book.proofs.Naming.{contains_best, named_itself}
use Rattle.xm_rules.specs.Orders.{is_named, removed, with_rest}
use Rattle.xm_rules.specs.declared.orders.Order.{Order}
use Rattle.xm_rules.specs.declared.orders.Side.{Side}
use Rattle.xm_rules.specs.declared.phases.Phase.{Phase}

with_rest_length : (member reference rest : ℕ) (os : List Order) → length (with_rest member reference rest os) ≡ length os
with_rest_length member reference rest [] = refl
with_rest_length member reference rest (o ∷ os) = omega (arith, with_rest_length member reference rest os)

taken_if : (o : Order) (n : ℕ) (os : List Order) (b : Bool)
    → length (if b then removed o.member o.reference os else with_rest o.member o.reference (o.rest - n) os) ≤ length os
taken_if o n os true = length-kept (λ (p : Order). not (is_named o.member o.reference p)) os
taken_if o n os false = omega (arith, with_rest_length o.member o.reference (o.rest - n) os)

pub no_more : (n : ℕ) (os : List Order) (o : Option Order) → length (taken_from_any o n os) ≤ length os
no_more n os None = omega arith
no_more n os (Some o) = taken_if o n os (n == o.rest)

listed : (os : List Order) (o : Order) → Contains os o → list_any (is_named o.member o.reference) os ≡ true
listed os o at =
    true_from_ne_false (list_any (is_named o.member o.reference) os)
    (λ e. both_ways (is_named o.member o.reference o) (list_any-false (is_named o.member o.reference) os o e at) (named_itself o))

pub one_less : (phase : Phase) (side : Side) (n : ℕ) (os : List Order) (o : Order) → best_order phase side os ≡ Some o → n ≡ o.rest
    → length (taken_from_best phase side n os) < length os
one_less phase side n os o e f =
    let fewer = fewer-left o.member o.reference os (listed os o (contains_best phase side os o e)) in
    let same : taken_from_best phase side n os ≡ removed o.member o.reference os =
    ap (λ (found : Option Order). taken_from_any found n os) e
    ∙ ap (λ (b : Bool). if b then removed o.member o.reference os else with_rest o.member o.reference (o.rest - n) os) (eq-eqb n o.rest f) in
    let long : length (taken_from_best phase side n os) ≡ length (removed o.member o.reference os) = ap length same in
    omega arith

pub some_there : (phase : Phase) (side : Side) (os : List Order) (o : Order) → best_order phase side os ≡ Some o → 0 < length os
some_there phase side os o e = let at = contains_best phase side os o e in let l = at.1 in omega arith

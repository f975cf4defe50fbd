-- The orders of a list that have a name.
use Rattle.std.proofs.Common.{◌≡◌, ℕ, Bool, true, false, ◌&&◌, ◌||◌, not, cond, List, [], ◌∷◌, filter, find, Option, Some, refl, arith}
use Rattle.std.specs.Prelude.{is_some, nat_eq}
use Rattle.std.specs.List.{list_any}
use Rattle.std.proofs.lemmas.Bool.Decides.{nat_tests}
use Rattle.xm_rules.specs.Orders.{is_named}
use Rattle.xm_rules.specs.declared.orders.Order.{Order}

found_if : (p : Order → Bool) (o x : Order) (os : List Order) (b : Bool) → p o ≡ b → (find p os ≡ Some x → p x ≡ true) → cond b (Some o) (find p os) ≡ Some x → p x ≡ true
found_if p o x os true e more h = let same : o ≡ x = cc in rw (← same) e
found_if p o x os false e more h = more h

-- what is found passes the test
pub find-passes : (p : Order → Bool) (os : List Order) (x : Order) → find p os ≡ Some x → p x ≡ true
find-passes p [] x h = cc
find-passes p (o ∷ os) x h = found_if p o x os (p o) refl (find-passes p os x) h

module _ {X : Type 0} (p : X → Bool) where
  found-any_if : (x : X) (b any : Bool) (found : Option X) → any ≡ is_some found → (b || any) ≡ is_some (cond b (Some x) found)
  found-any_if x true any found e = refl
  found-any_if x false any found e = e

  -- a test passes where something is found
  pub any-find : (xs : List X) → list_any p xs ≡ is_some (find p xs)
  any-find [] = refl
  any-find (x ∷ xs) = found-any_if x (p x) (list_any p xs) (find p xs) (any-find xs)

left_out_if : (p : Order → Bool) (o : Order) (os : List Order) (b : Bool) → p o ≡ b → list_any p os ≡ false → list_any p (cond (not b) (o ∷ os) os) ≡ false
left_out_if p o os true e h = h
left_out_if p o os false e h = rw e h

-- none is left where all that pass the test are left out
pub any-left_out : (p : Order → Bool) (os : List Order) → list_any p (filter (λ (o : Order). not (p o)) os) ≡ false
any-left_out p [] = refl
any-left_out p (o ∷ os) = left_out_if p o (filter (λ (x : Order). not (p x)) os) (p o) refl (any-left_out p os)

-- the name of an order that is found by its name
pub record HasName (m r : ℕ) (o : Order) : Type 0 where
  pub member : o.member ≡ m
  pub reference : o.reference ≡ r

pub find-named : (member reference : ℕ) (os : List Order) (o : Order) → find (is_named member reference) os ≡ Some o → HasName member reference o
find-named member reference os o h =
    let p : (nat_eq o.member member && nat_eq o.reference reference) ≡ true = find-passes (is_named member reference) os o h in
    record { member = grind (arith, nat_tests); reference = grind (arith, nat_tests) }

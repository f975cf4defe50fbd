-- Units that are taken from one order of what is left of a time list.
use Rattle.xm_book.specs.Listing.{order_owner, order_reference}
use Rattle.xm_slots.specs.Naming.{have_own_names}
use Rattle.std.proofs.Common.{◌≡◌, ℕ, ◌+◌, ◌-◌, ◌<◌, ◌≤◌, Bool, true, false, ◌==◌, if◌then◌else◌, IfSome, List, [], ◌∷◌, map, filter, Contains, Some, refl, sym, ap, subst, ◌∙◌, arith}
use Rattle.std.specs.Prelude.{nat_lt}
use Rattle.std.proofs.lemmas.Bool.{lt-ltb}
use Rattle.std.proofs.lemmas.Bool.Decides.{nat_tests}
use Rattle.xm_book.specs.Queues.{best_order, taken_from}
use Rattle.xm_book.proofs.Naming.{named_itself, one_of_name, order_in, own_positioned}
use Rattle.xm_book.proofs.Remaining.{has_rest, lessened}
use Rattle.xm_book.specs.TimeList.{TimeList}
use Rattle.xm_slots.proofs.Members.{Contains-here, Contains-there}
use Rattle.xm_rules.specs.Active.{Positioned, positioned_from}
use Rattle.xm_rules.specs.Orders.{is_named, removed, with_rest}
use Rattle.xm_rules.specs.Priority.{without_units}
use Rattle.xm_rules.specs.declared.orders.Order.{Order}
use Rattle.xm_rules.specs.declared.orders.Side.{Side}
use Rattle.xm_rules.specs.declared.phases.Phase.{Phase}
use Rattle.xm_rules.proofs.Queues.{units}

module _ (taken more : Positioned → ℕ) (member reference : ℕ) where
  abbrev left_by : (Positioned → ℕ) → List Positioned → List Order
  left_by g is = filter has_rest (map (lessened g) is)

  abbrev Others : List Positioned → Type 0
  Others is = (i : Positioned) → Contains is i → is_named member reference i.order ≡ false → more i ≡ taken i

  -- the order of the name is gone
  gone_if : (i : Positioned) (is : List Positioned) (named was : Bool) → is_named member reference i.order ≡ named → has_rest (lessened taken i) ≡ was
      → (named ≡ true → has_rest (lessened more i) ≡ false) → (named ≡ false → more i ≡ taken i) → removed member reference (left_by taken is) ≡ left_by more is
      → removed member reference (left_by taken (i ∷ is)) ≡ left_by more (i ∷ is)
  gone_if i is true true e f gone same rest = rw (f, gone refl, e) rest
  gone_if i is true false e f gone same rest = rw (f, gone refl) rest
  gone_if i is false true e f gone same rest = rw (same refl, f, e) (ap (λ (l : List Order). lessened taken i ∷ l) rest)
  gone_if i is false false e f gone same rest = rw (same refl, f) rest

  gone : (is : List Positioned) → ((i : Positioned) → Contains is i → is_named member reference i.order ≡ true → has_rest (lessened more i) ≡ false) → Others is
      → removed member reference (left_by taken is) ≡ left_by more is
  gone [] h others = refl
  gone (i ∷ is) h others =
      gone_if i is (is_named member reference i.order) (has_rest (lessened taken i)) refl refl (h i (Contains-here i is)) (others i (Contains-here i is))
      (gone is (λ j at. h j (Contains-there i is j at)) (λ j at. others j (Contains-there i is j at)))

  -- or has another rest
  pub record Lowered (rest : ℕ) (i : Positioned) : Type 0 where
    pub was : has_rest (lessened taken i) ≡ true
    pub is : has_rest (lessened more i) ≡ true
    pub rest_is : i.order.rest - more i ≡ rest

  lowered_if : (rest : ℕ) (i : Positioned) (is : List Positioned) (named was : Bool) → is_named member reference i.order ≡ named → has_rest (lessened taken i) ≡ was
      → (named ≡ true → Lowered rest i) → (named ≡ false → more i ≡ taken i) → with_rest member reference rest (left_by taken is) ≡ left_by more is
      → with_rest member reference rest (left_by taken (i ∷ is)) ≡ left_by more (i ∷ is)
  lowered_if rest i is true true e f low same r = let l = low refl in rw (f, l.is, e) (λ j. (let o = i.order in record o { rest = sym l.rest_is j }) ∷ r j)
  lowered_if rest i is true false e f low same r = absurd (let l = low refl in let g = l.was in cc)
  lowered_if rest i is false true e f low same r = rw (same refl, f, e) (ap (λ (l : List Order). lessened taken i ∷ l) r)
  lowered_if rest i is false false e f low same r = rw (same refl, f) r

  lowered : (rest : ℕ) (is : List Positioned) → ((i : Positioned) → Contains is i → is_named member reference i.order ≡ true → Lowered rest i) → Others is
      → with_rest member reference rest (left_by taken is) ≡ left_by more is
  lowered rest [] h others = refl
  lowered rest (i ∷ is) h others =
      lowered_if rest i is (is_named member reference i.order) (has_rest (lessened taken i)) refl refl (h i (Contains-here i is)) (others i (Contains-here i is))
      (lowered rest is (λ j at. h j (Contains-there i is j at)) (λ j at. others j (Contains-there i is j at)))

none_left : (rest old new units : ℕ) → (units == (rest - old)) ≡ true → new ≡ old + units → nat_lt 0 (rest - new) ≡ false
none_left rest old new units e f = grind (arith, nat_tests)

some_left : (rest old new units : ℕ) → (units == (rest - old)) ≡ false → units ≤ rest - old → new ≡ old + units → nat_lt 0 (rest - new) ≡ true
some_left rest old new units e l f = grind (arith, nat_tests)

rest_left : (rest old new units : ℕ) → units ≤ rest - old → new ≡ old + units → rest - new ≡ (rest - old) - units
rest_left rest old new units l f = omega arith

-- units are taken from one order, and from no other
pub record TakesFrom (orders : List Order) (taken more : Positioned → ℕ) (units_taken : ℕ) (x : Positioned) : Type 0 where
  pub own : have_own_names order_owner order_reference orders ≡ true
  pub contained : Contains (positioned_from 0 orders) x
  pub some : 0 < units_taken
  pub within : units_taken ≤ units x - taken x
  pub of_it : more x ≡ taken x + units_taken
  pub of_others : (i : Positioned) → Contains (positioned_from 0 orders) i → (i ≡ x → ⊥) → more i ≡ taken i

module _ (orders : List Order) (taken more : Positioned → ℕ) (n : ℕ) (x : Positioned) (h : TakesFrom orders taken more n x) where
  named_is : (i : Positioned) → Contains (positioned_from 0 orders) i → is_named x.order.member x.order.reference i.order ≡ true → i ≡ x
  named_is i at named = one_of_name order_in (positioned_from 0 orders) (own_positioned orders h.own) x i h.contained at named

  others : (i : Positioned) → Contains (positioned_from 0 orders) i → is_named x.order.member x.order.reference i.order ≡ false → more i ≡ taken i
  others i at named =
      h.of_others i at (λ e. let f : is_named x.order.member x.order.reference i.order ≡ true = ap (λ (j : Positioned). is_named x.order.member x.order.reference j.order) e ∙ named_itself x.order in cc)

  taken_if : (b : Bool) → (n == (units x - taken x)) ≡ b
      → (if b then removed x.order.member x.order.reference (without_units taken orders) else with_rest x.order.member x.order.reference ((units x - taken x) - n) (without_units taken orders))
      ≡ without_units more orders
  taken_if true e =
      gone taken more x.order.member x.order.reference (positioned_from 0 orders)
      (λ i at named. subst (λ (j : Positioned). has_rest (lessened more j) ≡ false) (sym (named_is i at named)) (none_left (units x) (taken x) (more x) n e h.of_it)) others
  taken_if false e =
      lowered taken more x.order.member x.order.reference ((units x - taken x) - n) (positioned_from 0 orders)
      (λ i at named. subst (λ (j : Positioned). Lowered taken more x.order.member x.order.reference ((units x - taken x) - n) j) (sym (named_is i at named)) low) others
    where
      low : Lowered taken more x.order.member x.order.reference ((units x - taken x) - n) x
      low = record {
        was = (let s = h.some in let w = h.within in lt-ltb 0 (units x - taken x) (omega arith));
        is = some_left (units x) (taken x) (more x) n e h.within h.of_it;
        rest_is = rest_left (units x) (taken x) (more x) n h.within h.of_it;
      }

  pub taken_is : taken_from (lessened taken x) n (without_units taken orders) ≡ without_units more orders
  taken_is = taken_if (n == (units x - taken x)) refl

-- the best order of a side has as many units
abbrev pub HasUnits : Phase → Side → ℕ → List Order → Type 0
HasUnits phase side n os = IfSome (best_order phase side os) (λ (o : Order). (1 ≤ n) × (n ≤ o.rest))

pub has_units : (phase : Phase) (side : Side) (n : ℕ) (os : List Order) (o : Order) → best_order phase side os ≡ Some o → 0 < n → n ≤ o.rest → HasUnits phase side n os
has_units phase side n os o e h l = rw e (h, l)

-- the rest of a book stays as it was
pub rest_stays : (start before after : TimeList) (xs : List Order) → before ≡ record start { orders = before.orders } → after ≡ record before { orders = xs }
    → after ≡ record start { orders = after.orders }
rest_stays start before after xs e f =
    let places = ap (λ (b : TimeList). b.reserved) f ∙ ap (λ (b : TimeList). b.reserved) e in
    let adds = ap (λ (b : TimeList). b.adds) f ∙ ap (λ (b : TimeList). b.adds) e in
    (λ i. record { orders = after.orders; reserved = places i; adds = adds i })

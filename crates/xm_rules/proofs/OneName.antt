-- No command gives two live orders or held stops one name.
use Rattle.std.proofs.Common.{◌≡◌, ℕ, ◌+◌, ◌-◌, ◌≤◌, ◌==◌, Bool, true, false, not, ◌&&◌, if◌then◌else◌, cond, List, [], ◌∷◌, filter, find, map, sum_by, Option, Some, None, refl, sym, ap, ◌∙◌, arith}
use Rattle.std.specs.List.{list_any}
use Rattle.std.specs.Prelude.{nat_lt}
use Rattle.std.proofs.lemmas.Bool.{and_parts, eqb-true, or_parts}
use Rattle.std.proofs.lemmas.List.Sums.{sum_by-cons, sum_by_push}
use Rattle.xm_rules.specs.Active.{Positioned, positioned_from}
use Rattle.xm_rules.specs.Allotment.{Uncrossing, allotted}
use Rattle.xm_rules.specs.Auction.{auction_price}
use Rattle.xm_rules.specs.Commands.{outlasts, trigger_of}
use Rattle.xm_rules.specs.Orders.{is_named, is_stop_named}
use Rattle.xm_rules.specs.Priority.{without_units}
use Rattle.xm_rules.specs.Refusals.{has_order, has_stop, refusal_of}
use Rattle.xm_rules.specs.Settling.{come, is_continuous, is_free, is_reached, joined, order_of_stop, settle, sweep_of, swept}
use Rattle.xm_rules.specs.State.{State, ranges, ref1}
use Rattle.xm_rules.specs.Step.{act, cancelled, changed, changed_order, come_under, determined, entered, entered_order, keeps_priority, reduced, replaced, stage_after, step, stop_of, traded, uncrossed, uncrossed_at}
use Rattle.xm_rules.specs.Sweep.{fill, is_fillable, rest_after}
use Rattle.xm_rules.specs.declared.commands.Command.{Command}
use Rattle.xm_rules.specs.declared.commands.Command.TheVariants.{Enter, Change, Cancel, CancelAll, StartOpening, StartIntraday, StartClosing, Uncross, EndDay}
use Rattle.xm_rules.specs.declared.commands.Condition.{Condition}
use Rattle.xm_rules.specs.declared.commands.Condition.TheVariants.{Plain, Ioc, Fok, Boc}
use Rattle.xm_rules.specs.declared.orders.Order.{Order}
use Rattle.xm_rules.specs.declared.orders.Stop.{Stop}
use Rattle.xm_rules.specs.declared.phases.Auction.{Auction}
use Rattle.xm_rules.specs.declared.phases.CallStage.{CallStage}
use Rattle.xm_rules.specs.declared.phases.Phase.{Phase}
use Rattle.xm_rules.specs.declared.phases.Phase.TheVariants.{Call}
use Rattle.xm_rules.proofs.Accepted.{entry-accepted}
use Rattle.xm_rules.proofs.CallTrades.{call_of}
use Rattle.xm_rules.proofs.Orderings.{sum-map}
use Rattle.xm_rules.proofs.SettledSums.{part, settle-within, split}
use Rattle.xm_rules.proofs.Sums.{sum-each}

-- ---- counts

module _ {X : Type 0} (p : X → Bool) where
  abbrev one : X → ℕ
  one x = cond (p x) 1 0

  none_if : (b : Bool) (n : ℕ) → b ≡ false → n ≡ 0 → cond b 1 0 + n ≡ 0
  none_if true n e f = absurd (cc)
  none_if false n e f = omega arith

  pub count-none : (xs : List X) → list_any p xs ≡ false → sum_by one xs ≡ 0
  count-none [] h = refl
  count-none (x ∷ xs) h =
      let parts = or_parts (p x) (list_any p xs) h in
      sum_by-cons one x xs ∙ none_if (p x) (sum_by one xs) parts.0 (count-none xs parts.1)

  kept_none : (x : X) (xs : List X) (b : Bool) → p x ≡ b → sum_by one xs ≡ 0 → sum_by one (cond (not b) (x ∷ xs) xs) ≡ 0
  kept_none x xs true e h = h
  kept_none x xs false e h = sum_by-cons one x xs ∙ none_if (p x) (sum_by one xs) e h

  -- without those that pass none is left
  pub count-without : (xs : List X) → sum_by one (filter (λ x. not (p x)) xs) ≡ 0
  count-without [] = refl
  count-without (x ∷ xs) = kept_none x (filter (λ y. not (p y)) xs) (p x) refl (count-without xs)

module _ (member reference : ℕ) where
  abbrev pub named : Order → ℕ
  named o = cond (is_named member reference o) 1 0

  abbrev pub stop_named : Stop → ℕ
  stop_named stop = cond (is_stop_named member reference stop) 1 0

  -- the number of live orders and held stops of this name
  abbrev pub uses : State → ℕ
  uses s = sum_by named s.orders + sum_by stop_named s.stops

  placed : (k : ℕ) (os : List Order) → sum_by (λ (i : Positioned). named i.order) (positioned_from k os) ≡ sum_by named os
  placed k [] = refl
  placed k (o ∷ os) =
      omega (arith, sum_by-cons (λ (i : Positioned). named i.order) (record { position = k; order = o }) (positioned_from (k + 1) os), sum_by-cons named o os, placed (k + 1) os)

  without-uses : (taken : Positioned → ℕ) (os : List Order) → sum_by named (without_units taken os) ≤ sum_by named os
  without-uses taken os =
      let lessened = λ (i : Positioned). (let o = i.order in let p : Order = record o { rest = o.rest - taken i } in p) in
      omega (arith, part named (λ (o : Order). nat_lt 0 o.rest) (map lessened (positioned_from 0 os)), sum-map named lessened (positioned_from 0 os), placed 0 os)

  at_most : (a b : State) (n : ℕ) (t : Bool) → uses a ≤ n → uses b ≤ n → uses (if t then a else b) ≤ n
  at_most a b n true h i = h
  at_most a b n false h i = i

  pub come-uses : (s : State) (o : Order) → uses (come s o) ≤ uses s + named o
  come-uses s o =
      let w = sweep_of s o in
      let rest : Order = record o { rest = rest_after w } in
      let left = without-uses (fill w) s.orders in
      at_most _ (joined s o) (uses s + named o) (is_continuous s.phase && is_free o.restriction)
      (at_most (swept s o) _ (uses s + named o) (rest_after w == 0) (omega (arith, left)) (omega (arith, left, sum_by_push named (swept s o).orders rest)))
      (omega (arith, sum_by_push named s.orders o))

  pub settle-uses : (s : State) → uses (settle s []) ≤ uses s
  settle-uses s =
      settle-within uses stop_named (λ s stop. come-uses s (order_of_stop stop)) (λ s. omega (arith, split stop_named (is_reached (ref1 s)) s.stops)) s

  -- ---- commands

  condition-uses : (condition : Condition) (s : State) (o : Order) → uses (come_under condition s o) ≤ uses s + named o
  condition-uses Plain s o = come-uses s o
  condition-uses Ioc s o = omega (arith, without-uses (fill (sweep_of s o)) s.orders)
  condition-uses Fok s o = at_most (come s o) s (uses s + named o) (is_fillable (sweep_of s o)) (come-uses s o) (omega arith)
  condition-uses Boc s o = come-uses s o

  entered-uses : (s : State) (condition : Condition) (trigger : Option ℕ) (o : Order) → uses (entered s condition trigger o) ≤ uses s + named o
  entered-uses s condition None o = condition-uses condition s o
  entered-uses s condition (Some trigger) o = omega (arith, sum_by_push stop_named s.stops (stop_of trigger o))

  cancelled-uses : (s : State) (m r : ℕ) → uses (cancelled s m r) ≤ uses s
  cancelled-uses s m r =
      omega (arith, part named (λ (o : Order). not (is_named m r o)) s.orders, part stop_named (λ (stop : Stop). not (is_stop_named m r stop)) s.stops)

  none-left : (s : State) → uses (cancelled s member reference) ≡ 0
  none-left s = omega (arith, count-without (is_named member reference) s.orders, count-without (is_stop_named member reference) s.stops)

  same_name : (b : Bool) (o : Order) (q : ℕ) → named (if b then record o { rest = q } else o) ≡ named o
  same_name true o q = refl
  same_name false o q = refl

  reduced-uses : (s : State) (q : ℕ) (o : Order) → uses (reduced s q o) ≡ uses s
  reduced-uses s q o =
      omega (
        arith,
        sum-map named (λ (x : Order). if is_named o.member o.reference x then record x { rest = q } else x) s.orders,
        sum-each (λ (x : Order). named (if is_named o.member o.reference x then record x { rest = q } else x)) named s.orders (λ x. same_name (is_named o.member o.reference x) x q),
      )

  -- an order whose name is free takes it
  free_if : (n m : ℕ) (b : Bool) → n ≤ m + cond b 1 0 → m ≤ 1 → (b ≡ true → m ≡ 0) → n ≤ 1
  free_if n m true h l free = let e = free refl in omega arith
  free_if n m false h l free = omega arith

  own_name : (o : Order) → is_named member reference o ≡ true → (o.member ≡ member) × (o.reference ≡ reference)
  own_name o e =
      let parts = and_parts (o.member == member) (o.reference == reference) e in
      (eqb-true o.member member parts.0, eqb-true o.reference reference parts.1)

  replaced-uses : (s : State) (o again : Order) → again.member ≡ o.member → again.reference ≡ o.reference → uses s ≤ 1 → uses (replaced s o again) ≤ 1
  replaced-uses s o again e f l =
      free_if (uses (replaced s o again)) (uses (cancelled s o.member o.reference)) (is_named member reference again) (come-uses (cancelled s o.member o.reference) again)
      (let c = cancelled-uses s o.member o.reference in omega arith)
      (λ h. let own = own_name again h in (λ i. uses (cancelled s ((sym e ∙ own.0) i) ((sym f ∙ own.1) i))) ∙ none-left s)

  changed-uses : (s : State) (q : ℕ) (limit : Option ℕ) (found : Option Order) → uses s ≤ 1 → uses (changed s q limit found) ≤ 1
  changed-uses s q limit None l = l
  changed-uses s q limit (Some o) l =
      at_most (reduced s q o) (replaced s o (changed_order q limit o)) 1 (keeps_priority q limit o) (omega (arith, reduced-uses s q o))
      (replaced-uses s o (changed_order q limit o) refl refl l)

  traded-uses : (s : State) (u : Uncrossing) → u.orders ≡ s.orders → uses (traded s u) ≤ uses s
  traded-uses s u same = omega (arith, without-uses (allotted u) u.orders, ap (sum_by named) same)

  determined-uses : (s : State) (u : Uncrossing) (next : Option CallStage) → u.orders ≡ s.orders → uses (determined s u next) ≤ uses s
  determined-uses s u None same = traded-uses s u same
  determined-uses s u (Some stage) same = omega arith

  priced-uses : (s : State) (auction : Auction) (stage : CallStage) (priced : Option (ℕ × ℕ)) → uses (uncrossed_at s auction stage priced) ≤ uses s
  priced-uses s auction stage None = omega arith
  priced-uses s auction stage (Some priced) = determined-uses s (call_of s auction stage priced) (stage_after (ranges s) stage priced.0) refl

  uncrossed-uses : (s : State) (phase : Phase) → uses (uncrossed s phase) ≤ uses s
  uncrossed-uses s (Call auction stage) = priced-uses s auction stage (auction_price (Call auction stage) s.orders (ref1 s))
  uncrossed-uses s _ = omega arith

  free-name : (s : State) → has_order s member reference ≡ false → has_stop s member reference ≡ false → uses s ≡ 0
  free-name s e f = omega (arith, count-none (is_named member reference) s.orders e, count-none (is_stop_named member reference) s.stops f)

  pub act-uses : (s : State) (c : Command) → refusal_of s c ≡ None → uses s ≤ 1 → uses (act s c) ≤ 1
  act-uses s (Enter m r side kind quantity validity restriction condition) accepted l =
      let o = entered_order m r side kind quantity validity restriction in
      let passes = entry-accepted s m r side kind quantity validity restriction condition accepted in
      free_if (uses (act s (Enter m r side kind quantity validity restriction condition))) (uses s) (is_named member reference o) (entered-uses s condition (trigger_of kind) o) l
      (λ h. let own = own_name o h in
      free-name s ((λ i. has_order s (sym own.0 i) (sym own.1 i)) ∙ passes.no_order) ((λ i. has_stop s (sym own.0 i) (sym own.1 i)) ∙ passes.no_stop))
  act-uses s (Change m r quantity limit) accepted l = changed-uses s quantity limit (find (is_named m r) s.orders) l
  act-uses s (Cancel m r) accepted l = omega (arith, cancelled-uses s m r)
  act-uses s (CancelAll m) accepted l =
      omega (arith, part named (λ (o : Order). not (o.member == m)) s.orders, part stop_named (λ (stop : Stop). not (stop.member == m)) s.stops)
  act-uses s Uncross accepted l = omega (arith, uncrossed-uses s s.phase)
  act-uses s EndDay accepted l =
      omega (arith, part named (λ (o : Order). outlasts s.settings.today o.validity) s.orders, part stop_named (λ (stop : Stop). outlasts s.settings.today stop.validity) s.stops)
  act-uses s StartOpening accepted l = l
  act-uses s StartIntraday accepted l = l
  act-uses s StartClosing accepted l = l

  pub step-uses : (s : State) (c : Command) → refusal_of s c ≡ None → uses s ≤ 1 → uses (step s c) ≤ 1
  unfolding step
  step-uses s c accepted l = omega (arith, act-uses s c accepted l, settle-uses (act s c))

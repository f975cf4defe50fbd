-- What is left of a time list after units were taken from its orders, and which of it is the best.
use Rattle.std.proofs.Common.{◌≡◌, ℕ, ◌+◌, ◌-◌, ◌<◌, ◌≤◌, Bool, true, false, not, ◌&&◌, ◌||◌, if◌then◌else◌, List, [], ◌∷◌, map, filter, Contains, Some, None, refl, sym, ap, subst, ◌∙◌, ◌⊎◌, inl, inr, arith}
use Rattle.std.specs.List.{list_all}
use Rattle.std.specs.Prelude.{nat_lt}
use Rattle.std.proofs.lemmas.Bool.{and_parts, false_from_ne_true, ltb-true, lt-ltb}
use Rattle.std.proofs.lemmas.Bool.Decides.{nat_tests}
use Rattle.xm_book.proofs.Firsts.{first_is, later_in}
use Rattle.xm_book.specs.Queues.{best_order, first, order_at}
use Rattle.xm_slots.proofs.Members.{Contains-cases, Contains-filter, Contains-here, Contains-map, Contains-none, Contains-there, IsMade-map, Passes-filter, filter_none}
use Rattle.xm_rules.specs.Active.{Positioned, active, is_active_on, positioned_from}
use Rattle.xm_rules.specs.Commands.{is_in_range}
use Rattle.xm_rules.specs.Priority.{is_ahead, is_better, without_units}
use Rattle.xm_rules.specs.declared.orders.Order.{Order}
use Rattle.xm_rules.specs.declared.orders.Side.{Side}
use Rattle.xm_rules.specs.declared.phases.Phase.{Phase}
use Rattle.xm_rules.proofs.Ahead.{precedes}
use Rattle.xm_rules.proofs.Positions.{Later, Rising, rising_active}
use Rattle.xm_rules.proofs.Queues.{units}

-- an order without the units that were taken from it
abbrev pub lessened : (Positioned → ℕ) → Positioned → Order
lessened taken i = let o = i.order in record o { rest = o.rest - taken i }

abbrev pub has_rest : Order → Bool
has_rest o = nat_lt 0 o.rest

-- an order that has units left, with its position in the list that is left, and as it was
pub record Left : Type 0 where
  pub now : Positioned
  pub was : Positioned

abbrev pub now_of : Left → Positioned
now_of z = z.now

module _ (taken : Positioned → ℕ) where
  abbrev pub left_from : ℕ → List Positioned → List Left
  left_from k [] = []
  left_from k (i ∷ is) =
      if has_rest (lessened taken i) then record { now = record { position = k; order = lessened taken i }; was = i } ∷ left_from (k + 1) is else left_from k is

  left_if : (k : ℕ) (i : Positioned) (is : List Positioned) (b : Bool)
      → ((n : ℕ) → positioned_from n (filter has_rest (map (lessened taken) is)) ≡ map now_of (left_from n is))
      → positioned_from k (if b then lessened taken i ∷ filter has_rest (map (lessened taken) is) else filter has_rest (map (lessened taken) is))
      ≡ map now_of (if b then record { now = record { position = k; order = lessened taken i }; was = i } ∷ left_from (k + 1) is else left_from k is)
  left_if k i is true rest = ap (λ (l : List Positioned). record { position = k; order = lessened taken i } ∷ l) (rest (k + 1))
  left_if k i is false rest = rest k

  left_are : (k : ℕ) (is : List Positioned) → positioned_from k (filter has_rest (map (lessened taken) is)) ≡ map now_of (left_from k is)
  left_are k [] = refl
  left_are k (i ∷ is) = left_if k i is (has_rest (lessened taken i)) (λ n. left_are n is)

  -- what is known of one that is left
  record IsLeft (k : ℕ) (is : List Positioned) (z : Left) : Type 0 where
    pub stood : Contains is z.was
    pub order : z.now.order ≡ lessened taken z.was
    pub rest : has_rest (lessened taken z.was) ≡ true
    pub position : k ≤ z.now.position

  is_left_later : (k n : ℕ) (i : Positioned) (is : List Positioned) (z : Left) → k ≤ n → IsLeft n is z → IsLeft k (i ∷ is) z
  is_left_later k n i is z l h =
      record { stood = Contains-there i is z.was h.stood; order = h.order; rest = h.rest; position = (let p = h.position in omega arith) }

  is_left_by : (k : ℕ) (i : Positioned) (is : List Positioned) (z : Left) → has_rest (lessened taken i) ≡ true → (Contains (left_from (k + 1) is) z → IsLeft (k + 1) is z)
      → (record { now = record { position = k; order = lessened taken i }; was = i } ≡ z) ⊎ Contains (left_from (k + 1) is) z → IsLeft k (i ∷ is) z
  is_left_by k i is z e rest (inl same) =
      subst (λ (y : Left). IsLeft k (i ∷ is) y) same (record { stood = Contains-here i is; order = refl; rest = e; position = omega arith })
  is_left_by k i is z e rest (inr at) = is_left_later k (k + 1) i is z (omega arith) (rest at)

  is_left_if : (k : ℕ) (i : Positioned) (is : List Positioned) (z : Left) (b : Bool) → has_rest (lessened taken i) ≡ b
      → ((n : ℕ) → Contains (left_from n is) z → IsLeft n is z)
      → Contains (if b then record { now = record { position = k; order = lessened taken i }; was = i } ∷ left_from (k + 1) is else left_from k is) z → IsLeft k (i ∷ is) z
  is_left_if k i is z true e rest at =
      is_left_by k i is z e (rest (k + 1)) (Contains-cases (record { now = record { position = k; order = lessened taken i }; was = i }) (left_from (k + 1) is) z at)
  is_left_if k i is z false e rest at = is_left_later k k i is z (omega arith) (rest k at)

  is_left : (k : ℕ) (is : List Positioned) (z : Left) → Contains (left_from k is) z → IsLeft k is z
  is_left k [] z at = absurd (Contains-none z at)
  is_left k (i ∷ is) z at = is_left_if k i is z (has_rest (lessened taken i)) refl (λ n. is_left n is z) at

  -- each that has a rest is left
  record StaysLeft (k : ℕ) (is : List Positioned) (x : Positioned) : Type 0 where
    pub left : Left
    pub contained : Contains (left_from k is) left
    pub was : left.was ≡ x

  stays_if : (k : ℕ) (i : Positioned) (is : List Positioned) (x : Positioned) (b : Bool) → has_rest (lessened taken i) ≡ b → has_rest (lessened taken x) ≡ true
      → ((n : ℕ) → Contains is x → StaysLeft n is x) → (i ≡ x) ⊎ Contains is x
      → (z : Left) × Contains (if b then record { now = record { position = k; order = lessened taken i }; was = i } ∷ left_from (k + 1) is else left_from k is) z × (z.was ≡ x)
  stays_if k i is x true e h rest (inl same) =
      let z : Left = record { now = record { position = k; order = lessened taken i }; was = i } in
      (z, Contains-here z (left_from (k + 1) is), same)
  stays_if k i is x false e h rest (inl same) = absurd (let f : has_rest (lessened taken i) ≡ has_rest (lessened taken x) = ap (λ (j : Positioned). has_rest (lessened taken j)) same in cc)
  stays_if k i is x true e h rest (inr at) =
      let s = rest (k + 1) at in
      (s.left, Contains-there (record { now = record { position = k; order = lessened taken i }; was = i }) (left_from (k + 1) is) s.left s.contained, s.was)
  stays_if k i is x false e h rest (inr at) = let s = rest k at in (s.left, s.contained, s.was)

  stays_left : (k : ℕ) (is : List Positioned) (x : Positioned) → has_rest (lessened taken x) ≡ true → Contains is x → StaysLeft k is x
  stays_left k [] x h at = absurd (Contains-none x at)
  stays_left k (i ∷ is) x h at =
      let s = stays_if k i is x (has_rest (lessened taken i)) refl h (λ n. stays_left n is x h) (Contains-cases i is x at) in
      record { left = s.0; contained = s.1; was = s.2 }

  -- the positions rise with those that were
  abbrev RiseWith : Left → Left → Type 0
  RiseWith z w = z.now.position < w.now.position → z.was.position < w.was.position

  rise_by : (k : ℕ) (i : Positioned) (is : List Positioned) (z w : Left) → Later i is → (Contains (left_from (k + 1) is) z → Contains (left_from (k + 1) is) w → RiseWith z w)
      → (record { now = record { position = k; order = lessened taken i }; was = i } ≡ z) ⊎ Contains (left_from (k + 1) is) z
      → (record { now = record { position = k; order = lessened taken i }; was = i } ≡ w) ⊎ Contains (left_from (k + 1) is) w → RiseWith z w
  rise_by k i is z w late rest (inl e) (inl f) h =
      absurd (let p : k ≡ z.now.position = ap (λ (y : Left). y.now.position) e in let q : k ≡ w.now.position = ap (λ (y : Left). y.now.position) f in omega arith)
  rise_by k i is z w late rest (inl e) (inr wt) h =
      subst (λ (y : Left). y.was.position < w.was.position) e (later_in i is w.was late (is_left (k + 1) is w wt).stood)
  rise_by k i is z w late rest (inr zt) (inl f) h =
      absurd (let p = (is_left (k + 1) is z zt).position in let q : k ≡ w.now.position = ap (λ (y : Left). y.now.position) f in omega arith)
  rise_by k i is z w late rest (inr zt) (inr wt) h = rest zt wt h

  rise_if : (k : ℕ) (i : Positioned) (is : List Positioned) (z w : Left) (b : Bool) → Later i is → ((n : ℕ) → Contains (left_from n is) z → Contains (left_from n is) w → RiseWith z w)
      → Contains (if b then record { now = record { position = k; order = lessened taken i }; was = i } ∷ left_from (k + 1) is else left_from k is) z
      → Contains (if b then record { now = record { position = k; order = lessened taken i }; was = i } ∷ left_from (k + 1) is else left_from k is) w → RiseWith z w
  rise_if k i is z w true late rest zt wt =
      let head : Left = record { now = record { position = k; order = lessened taken i }; was = i } in
      rise_by k i is z w late (rest (k + 1)) (Contains-cases head (left_from (k + 1) is) z zt) (Contains-cases head (left_from (k + 1) is) w wt)
  rise_if k i is z w false late rest zt wt = rest k zt wt

  rise_with : (k : ℕ) (is : List Positioned) → Rising is → (z w : Left) → Contains (left_from k is) z → Contains (left_from k is) w → RiseWith z w
  rise_with k [] rising z w zt wt = absurd (Contains-none z zt)
  rise_with k (i ∷ is) rising z w zt wt = rise_if k i is z w (has_rest (lessened taken i)) rising.0 (λ n. rise_with n is rising.1 z w) zt wt

  -- so which is ahead stays
  moved_if : (better worse : Bool) (m n p q : ℕ) → (m < n → p < q) → (better || (not worse && nat_lt m n)) ≡ true → (better || (not worse && nat_lt p q)) ≡ true
  moved_if true worse m n p q h e = refl
  moved_if false true m n p q h e = e
  moved_if false false m n p q h e = lt-ltb p q (h (ltb-true m n e))

  ahead_before : (side : Side) (k : ℕ) (is : List Positioned) (z w : Left) → IsLeft k is z → IsLeft k is w → RiseWith z w → is_ahead side z.now w.now ≡ true → is_ahead side z.was w.was ≡ true
  ahead_before side k is z w zl wl rise h =
      let zk : z.was.order.kind ≡ z.now.order.kind = ap (λ (o : Order). o.kind) (sym zl.order) in
      let wk : w.was.order.kind ≡ w.now.order.kind = ap (λ (o : Order). o.kind) (sym wl.order) in
      (λ j. precedes side (zk j) z.was.position (wk j) w.was.position)
      ∙ moved_if (is_better side z.now.order.kind w.now.order.kind) (is_better side w.now.order.kind z.now.order.kind) z.now.position w.now.position z.was.position w.was.position rise h

  active_before : (phase : Phase) (side : Side) (k : ℕ) (is : List Positioned) (z : Left) → IsLeft k is z → is_active_on phase side z.now ≡ is_active_on phase side z.was
  active_before phase side k is z h = ap (λ (o : Order). is_active_on phase side (record { position = 0; order = o })) h.order

  -- the best order that is left: it has units left, and all orders ahead of it have none
  pub best_left : (phase : Phase) (side : Side) (orders : List Order) → Rising (positioned_from 0 orders) → (x : Positioned) → Contains (active phase side orders) x → taken x < units x
      → ((i : Positioned) → Contains (active phase side orders) i → is_ahead side i x ≡ true → units i ≤ taken i)
      → best_order phase side (without_units taken orders) ≡ Some (lessened taken x)
  best_left phase side orders rising x at more all =
      let ps = positioned_from 0 orders in
      let queue = filter (is_active_on phase side) (map now_of (left_from 0 ps)) in
      let in_ps = Passes-filter (is_active_on phase side) ps x at in
      let stays = stays_left 0 ps x (lt-ltb 0 (units x - taken x) (omega arith)) in_ps.contains in
      let z = stays.left in
      let known = is_left 0 ps z stays.contained in
      let active_now : is_active_on phase side z.now ≡ true =
      active_before phase side 0 ps z known ∙ ap (is_active_on phase side) stays.was ∙ in_ps.passes in
      let same : active phase side (without_units taken orders) ≡ queue = ap (filter (is_active_on phase side)) (left_are 0 ps) in
      let rises : Rising queue = subst Rising same (rising_active phase side (without_units taken orders)) in
      let found : first side queue ≡ Some z.now =
      first_is side queue rises z.now (Contains-filter (is_active_on phase side) (map now_of (left_from 0 ps)) z.now active_now (Contains-map now_of (left_from 0 ps) z stays.contained))
      (λ i to. none i to z stays.contained stays.was) in
      ap (λ (q : List Positioned). order_at (first side q)) same ∙ ap order_at found ∙ ap (λ (o : Order). Some o) (known.order ∙ ap (lessened taken) stays.was)
    where
      ps_of : List Positioned
      ps_of = positioned_from 0 orders

      not_ahead : (w z : Left) → Contains (left_from 0 ps_of) w → Contains (left_from 0 ps_of) z → z.was ≡ x → is_active_on phase side w.now ≡ true → is_ahead side w.now z.now ≡ true → ⊥
      not_ahead w z wt zt was on h =
          let wl = is_left 0 ps_of w wt in
          let zl = is_left 0 ps_of z zt in
          let ahead : is_ahead side w.was x ≡ true = ap (is_ahead side w.was) (sym was) ∙ ahead_before side 0 ps_of w z wl zl (rise_with 0 ps_of rising w z wt zt) h in
          let on_was : is_active_on phase side w.was ≡ true = sym (active_before phase side 0 ps_of w wl) ∙ on in
          let gone = all w.was (Contains-filter (is_active_on phase side) ps_of w.was on_was wl.stood) ahead in
          let stayed = ltb-true 0 (units w.was - taken w.was) wl.rest in
          omega arith

      none : (i : Positioned) → Contains (filter (is_active_on phase side) (map now_of (left_from 0 ps_of))) i → (z : Left) → Contains (left_from 0 ps_of) z → z.was ≡ x → is_ahead side i z.now ≡ false
      none i to z zt was =
          let passes = Passes-filter (is_active_on phase side) (map now_of (left_from 0 ps_of)) i to in
          let made = IsMade-map now_of (left_from 0 ps_of) i passes.contains in
          let w = made.from in
          subst (λ (j : Positioned). is_ahead side j z.now ≡ false) made.made
          (false_from_ne_true (is_ahead side w.now z.now) (not_ahead w z made.contains zt was (ap (is_active_on phase side) made.made ∙ passes.passes)))

  -- no active order of a side is left where all have lost their units
  pub no_best_left : (phase : Phase) (side : Side) (orders : List Order) → ((i : Positioned) → Contains (active phase side orders) i → units i ≤ taken i)
      → best_order phase side (without_units taken orders) ≡ None
  no_best_left phase side orders all =
      let ps = positioned_from 0 orders in
      ap (λ (l : List Positioned). order_at (first side (filter (is_active_on phase side) l))) (left_are 0 ps)
      ∙ ap (λ (l : List Positioned). order_at (first side l)) (filter_none (is_active_on phase side) (map now_of (left_from 0 ps)) none)
    where
      gone : (w : Left) → Contains (left_from 0 (positioned_from 0 orders)) w → is_active_on phase side w.now ≡ true → ⊥
      gone w wt on =
          let known = is_left 0 (positioned_from 0 orders) w wt in
          let on_was : is_active_on phase side w.was ≡ true = sym (active_before phase side 0 (positioned_from 0 orders) w known) ∙ on in
          let lost = all w.was (Contains-filter (is_active_on phase side) (positioned_from 0 orders) w.was on_was known.stood) in
          let stayed = ltb-true 0 (units w.was - taken w.was) known.rest in
          omega arith

      none : (i : Positioned) → Contains (map now_of (left_from 0 (positioned_from 0 orders))) i → is_active_on phase side i ≡ false
      none i at =
          let made = IsMade-map now_of (left_from 0 (positioned_from 0 orders)) i at in
          subst (λ (j : Positioned). is_active_on phase side j ≡ false) made.made
          (false_from_ne_true (is_active_on phase side made.from.now) (gone made.from made.contains))

some_rest : (n : ℕ) → is_in_range n ≡ true → nat_lt 0 n ≡ true
some_rest n h = grind (arith, nat_tests)

all_some : (os : List Order) → list_all (λ (o : Order). is_in_range o.rest) os ≡ true → filter has_rest os ≡ os
all_some [] h = refl
all_some (o ∷ os) h =
    let parts = and_parts (is_in_range o.rest) (list_all (λ (p : Order). is_in_range p.rest) os) h in
    rw (some_rest o.rest parts.0) (ap (λ (l : List Order). o ∷ l) (all_some os parts.1))

none_lessened : (taken : Positioned → ℕ) (k : ℕ) (os : List Order) → ((i : Positioned) → taken i ≡ 0) → map (lessened taken) (positioned_from k os) ≡ os
none_lessened taken k [] none = refl
none_lessened taken k (o ∷ os) none =
    let nothing = none (record { position = k; order = o }) in
    let same : o.rest - taken (record { position = k; order = o }) ≡ o.rest = omega arith in
    (λ i. (record o { rest = same i }) ∷ none_lessened taken (k + 1) os none i)

-- where nothing is taken, all is left
pub all_kept : (taken : Positioned → ℕ) (os : List Order) → ((i : Positioned) → taken i ≡ 0) → list_all (λ (o : Order). is_in_range o.rest) os ≡ true
    → without_units taken os ≡ os
all_kept taken os none h = ap (filter has_rest) (none_lessened taken 0 os none) ∙ all_some os h

-- the same is left where the same is taken
less_same : (f g : Positioned → ℕ) (is : List Positioned) → ((i : Positioned) → Contains is i → f i ≡ g i) → map (lessened f) is ≡ map (lessened g) is
less_same f g [] h = refl
less_same f g (i ∷ is) h =
    let same = h i (Contains-here i is) in
    (λ k. (let o = i.order in record o { rest = o.rest - same k }) ∷ less_same f g is (λ j at. h j (Contains-there i is j at)) k)

pub same_left : (f g : Positioned → ℕ) (orders : List Order) → ((i : Positioned) → Contains (positioned_from 0 orders) i → f i ≡ g i) → without_units f orders ≡ without_units g orders
same_left f g orders h = ap (filter has_rest) (less_same f g (positioned_from 0 orders) h)

-- The trade with the next order: it is the last trade so far, and nothing else changes.
use Rattle.std.proofs.Common.{◌≡◌, ℕ, ◌+◌, ◌-◌, ◌<◌, ◌≤◌, min, Bool, true, false, ◌&&◌, if◌then◌else◌, List, [], ◌∷◌, ◌++◌, map, filter, Contains, Option, Some, None, refl, sym, ap, ◌∙◌, ◌⊎◌, inl, inr, arith}
use Rattle.std.specs.List.{filter_map, list_all}
use Rattle.std.specs.Prelude.{nat_lt}
use Rattle.std.proofs.lemmas.Bool.{lt-ltb, ltb-true}
use Rattle.std.proofs.lemmas.List.Sums.{sum_by-append, sum_by-cons}
use Rattle.xm_book.specs.Queues.{best_order, taken_from_any, taken_from_best}
use Rattle.xm_book.proofs.Cutting.{IsLast, none_given, one_last}
use Rattle.xm_slots.proofs.Members.{Contains-filter}
use Rattle.xm_book.proofs.Remaining.{best_left, lessened}
use Rattle.xm_book.proofs.Taking.{TakesFrom, taken_is}
use Rattle.xm_match.proofs.Cuts.{IsCut, IsDone, IsNext, IsSound, fill_of, fill_past, filled_whole, in_list, one_or_apart, some_units, upto}
use Rattle.xm_rules.specs.Active.{Positioned, is_active_on, positioned_from}
use Rattle.xm_rules.specs.Orders.{meets, trade_between}
use Rattle.xm_rules.specs.Priority.{in_order, without_units}
use Rattle.xm_rules.specs.State.{inside_both}
use Rattle.xm_rules.specs.Sums.{total_quantity}
use Rattle.xm_rules.specs.Sweep.{Sweep, ahead_of, fill, is_executable, is_met_inside, meet_price, other_side, queue, sweep_trades, units_before}
use Rattle.xm_rules.specs.declared.orders.Order.{Order}
use Rattle.xm_rules.specs.declared.orders.Side.{Side}
use Rattle.xm_rules.specs.declared.orders.Side.TheVariants.{Buy, Sell}
use Rattle.xm_rules.specs.declared.orders.Trade.{Trade}
use Rattle.xm_rules.specs.declared.orders.TradeKind.{TradeKind}
use Rattle.xm_rules.specs.declared.orders.TradeKind.TheVariants as trade_kind
use Rattle.xm_rules.specs.declared.phases.Phase.TheVariants.{Continuous}
use Rattle.xm_rules.proofs.Positions.{rising_active, rising_from}
use Rattle.xm_rules.proofs.Queues.{units}
use Rattle.xm_rules.proofs.Sweeps.{quantity_between, quantity_of, traded_is_filled}

-- ---- a trade with an order in so many units
abbrev pub trade_of : ℕ → Sweep → ℕ → Positioned → Trade
trade_of number w n i = trade_between number trade_kind.Continuous (meet_price w i) n w.incoming.side w.incoming i.order

abbrev pub given_of : ℕ → Sweep → Positioned → ℕ → Option (ℕ × Trade)
given_of number w i n = if nat_lt 0 n then Some (units_before w i, trade_of number w n i) else None

-- the rest of an order is no part of its trades
pub rest_apart : (number : ℕ) (kind : TradeKind) (price n : ℕ) (side : Side) (o i : Order) (r : ℕ)
    → trade_between number kind price n side (record o { rest = r }) i ≡ trade_between number kind price n side o i
rest_apart number kind price n Buy o i r = refl
rest_apart number kind price n Sell o i r = refl

pub rest_apart_too : (number : ℕ) (kind : TradeKind) (price n : ℕ) (side : Side) (o i : Order) (r : ℕ)
    → trade_between number kind price n side o (record i { rest = r }) ≡ trade_between number kind price n side o i
rest_apart_too number kind price n Buy o i r = refl
rest_apart_too number kind price n Sell o i r = refl

module _ {X Y : Type 0} (p : X → Bool) (h : X → Y) where
  kept_if : (x : X) (xs : List X) (b : Bool) → p x ≡ b → map h (filter p xs) ≡ filter_map (λ y. if p y then Some (h y) else None) xs
      → map h (filter p (x ∷ xs)) ≡ filter_map (λ y. if p y then Some (h y) else None) (x ∷ xs)
  kept_if x xs true e rest = rw e (ap (λ (l : List Y). h x ∷ l) rest)
  kept_if x xs false e rest = rw e rest

  map_kept : (xs : List X) → map h (filter p xs) ≡ filter_map (λ y. if p y then Some (h y) else None) xs
  map_kept [] = refl
  map_kept (x ∷ xs) = kept_if x xs (p x) refl (map_kept xs)

pub trades_are : (number : ℕ) (w : Sweep) (t : ℕ) → sweep_trades number (upto t w) ≡ in_order (filter_map (λ (i : Positioned). given_of number w i (fill (upto t w) i)) (queue w))
trades_are number w t =
    (λ j. in_order (map (λ (i : Positioned). (units_before w i, rest_apart number trade_kind.Continuous (meet_price w i) (fill (upto t w) i) w.incoming.side w.incoming i.order t j)) (filter (λ (i : Positioned). nat_lt 0 (fill (upto t w) i)) (queue w))))
    ∙ ap in_order (map_kept (λ (i : Positioned). nat_lt 0 (fill (upto t w) i)) (λ (i : Positioned). (units_before w i, trade_of number w (fill (upto t w) i) i)) (queue w))

given_some : (number : ℕ) (w : Sweep) (i : Positioned) (n done : ℕ) → 0 < n → units_before w i ≡ done → given_of number w i n ≡ Some (done, trade_of number w n i)
given_some number w i n done l e =
    ap (λ (b : Bool). if b then Some (units_before w i, trade_of number w n i) else None) (lt-ltb 0 n l) ∙ ap (λ (k : ℕ). let pair : ℕ × Trade = (k, trade_of number w n i) in Some pair) e

given_below : (number : ℕ) (w : Sweep) (i : Positioned) (n done : ℕ) (z : ℕ × Trade) (b : Bool) → nat_lt 0 n ≡ b → (0 < n → units_before w i < done)
    → (if b then Some (units_before w i, trade_of number w n i) else None) ≡ Some z → z.0 < done
given_below number w i n done z true e below h =
    let l = below (ltb-true 0 n e) in
    let same : units_before w i ≡ z.0 = (let g : (units_before w i, trade_of number w n i) ≡ z = cc in ap (λ (y : ℕ × Trade). y.0) g) in
    omega arith
given_below number w i n done z false e below h = absurd (cc)

some_part : (b : Bool) (n t m : ℕ) → 0 < (if b then min n (t - m) else 0) → m < t
some_part true n t m l = omega arith
some_part false n t m l = absurd (omega arith)

-- an order that isn't active on the other side is filled nothing
pub fill_off : (w : Sweep) (t : ℕ) (i : Positioned) → is_active_on Continuous (other_side w) i ≡ false → fill (upto t w) i ≡ 0
fill_off w t i e = ap (λ (b : Bool). if ((b && meets w.incoming.side w.incoming.kind i.order.kind) && inside_both w.ranges (meet_price w i)) && list_all (is_met_inside w) (ahead_of w i) then min (units i) (t - units_before w i) else 0) e

-- ---- the next order is filled some units more
module _ (w : Sweep) (number done : ℕ) (s : IsSound w) (d : IsDone w done) (c : IsCut w done) (m : Positioned) (next : IsNext w done m) where
  pub nothing_yet : fill (upto done w) m ≡ 0
  nothing_yet = fill_past w done m (let at = next.at in omega arith)

  -- it is the best that is left
  pub best_is : best_order Continuous (other_side w) (without_units (fill (upto done w)) w.orders) ≡ Some (lessened (fill (upto done w)) m)
  best_is =
      best_left (fill (upto done w)) Continuous (other_side w) w.orders (rising_from 0 w.orders) m next.contained
      (let e = nothing_yet in let some = some_units w s m next.contained in omega arith)
      (λ i at h. let f = filled_whole w done s d i at (next.ahead i at h) in omega arith)

  module _ (exec : is_executable w m ≡ true) (n : ℕ) (some : 0 < n) (within : n ≤ units m) where
    filled_more : fill (upto (done + n) w) m ≡ n
    filled_more = let f = fill_of w (done + n) m exec in let at = next.at in omega arith

    fill_same : (i : Positioned) → Contains (queue w) i → (i ≡ m → ⊥) → fill (upto (done + n) w) i ≡ fill (upto done w) i
    fill_same i it other = by_place (one_or_apart w m i next.contained it)
      where
        by_place : (i ≡ m) ⊎ ((units_before w i + units i ≤ units_before w m) ⊎ (units_before w m + units m ≤ units_before w i))
            → fill (upto (done + n) w) i ≡ fill (upto done w) i
        by_place (inl e) = absurd (other e)
        by_place (inr (inl l)) =
            let at = next.at in
            let same : min (units i) ((done + n) - units_before w i) ≡ min (units i) (done - units_before w i) = omega arith in
            ap (λ (k : ℕ). if is_executable w i then k else 0) same
        by_place (inr (inr l)) =
            let at = next.at in
            let same : min (units i) ((done + n) - units_before w i) ≡ min (units i) (done - units_before w i) = omega arith in
            ap (λ (k : ℕ). if is_executable w i then k else 0) same

    gives : IsLast (λ (i : Positioned). given_of number w i (fill (upto done w) i)) (λ (i : Positioned). given_of number w i (fill (upto (done + n) w) i)) (queue w) m (done, trade_of number w n m)
    gives = record {
      contained = next.contained;
      none = ap (given_of number w m) nothing_yet;
      some = ap (given_of number w m) filled_more ∙ given_some number w m n done some next.at;
      same = λ i at other. ap (given_of number w i) (fill_same i at (λ e. other (ap (λ (z : Positioned). z.position) e)));
      below =
          λ i z at e. given_below number w i (fill (upto done w) i) done z (nat_lt 0 (fill (upto done w) i)) refl
          (λ l. some_part (is_executable w i) (units i) done (units_before w i) l) e;
    }

    pub last_trade : sweep_trades number (upto (done + n) w) ≡ sweep_trades number (upto done w) ++ trade_of number w n m ∷ []
    last_trade =
        trades_are number w (done + n)
        ∙ one_last (λ (i : Positioned). given_of number w i (fill (upto done w) i)) (λ (i : Positioned). given_of number w i (fill (upto (done + n) w) i)) (queue w)
        (rising_active Continuous (other_side w) w.orders) m (done, trade_of number w n m) gives
        ∙ ap (λ (l : List Trade). l ++ trade_of number w n m ∷ []) (sym (trades_are number w done))

    pub quantity_is : quantity_of (trade_of number w n m) ≡ n
    quantity_is = quantity_between number trade_kind.Continuous (meet_price w m) n w.incoming.side w.incoming m.order

    pub done_after : IsDone w (done + n)
    done_after = record {
      executed = λ i it l. by_place i it l (one_or_apart w m i next.contained it);
      whole =
          (let sums = ap total_quantity last_trade ∙ sum_by-append quantity_of (sweep_trades number (upto done w)) (trade_of number w n m ∷ []) in
          let one = sum_by-cons quantity_of (trade_of number w n m) [] in
          let after = traded_is_filled number (upto (done + n) w) in
          let now = traded_is_filled number (upto done w) in
          let whole = d.whole in
          let quantity = quantity_is in
          omega arith);
    }
      where
        by_place : (i : Positioned) → Contains (queue w) i → units_before w i < done + n
            → (i ≡ m) ⊎ ((units_before w i + units i ≤ units_before w m) ⊎ (units_before w m + units m ≤ units_before w i)) → is_executable w i ≡ true
        by_place i it l (inl e) = ap (is_executable w) e ∙ exec
        by_place i it l (inr (inl h)) = let u = some_units w s i it in let at = next.at in d.executed i it (omega arith)
        by_place i it l (inr (inr h)) = absurd (let at = next.at in omega arith)

    pub cut_after : n ≡ units m → IsCut w (done + n)
    cut_after e = record { cut = λ i it. by_place i it (one_or_apart w m i next.contained it) }
      where
        by_place : (i : Positioned) → Contains (queue w) i → (i ≡ m) ⊎ ((units_before w i + units i ≤ units_before w m) ⊎ (units_before w m + units m ≤ units_before w i))
            → (units_before w i + units i ≤ done + n) ⊎ (done + n ≤ units_before w i)
        by_place i it (inl f) =
            inl (let same : units_before w i + units i ≡ units_before w m + units m = ap (λ (z : Positioned). units_before w z + units z) f in let at = next.at in omega arith)
        by_place i it (inr (inl h)) = inl (let at = next.at in omega arith)
        by_place i it (inr (inr h)) = inr (let at = next.at in omega arith)

    stays_if : (i : Positioned) → Contains (positioned_from 0 w.orders) i → (i ≡ m → ⊥) → (b : Bool) → is_active_on Continuous (other_side w) i ≡ b
        → fill (upto (done + n) w) i ≡ fill (upto done w) i
    stays_if i at other true e = fill_same i (Contains-filter (is_active_on Continuous (other_side w)) (positioned_from 0 w.orders) i e at) other
    stays_if i at other false e = fill_off w (done + n) i e ∙ sym (fill_off w done i e)

    takes : TakesFrom w.orders (fill (upto done w)) (fill (upto (done + n) w)) n m
    takes = record {
      own = s.own;
      contained = in_list w m next.contained;
      some = some;
      within = (let e = nothing_yet in omega arith);
      of_it = (let e = nothing_yet in let f = filled_more in omega arith);
      of_others = λ i at other. stays_if i at other (is_active_on Continuous (other_side w) i) refl;
    }

    pub best_taken : taken_from_best Continuous (other_side w) n (without_units (fill (upto done w)) w.orders) ≡ without_units (fill (upto (done + n) w)) w.orders
    best_taken =
        ap (λ o. taken_from_any o n (without_units (fill (upto done w)) w.orders)) best_is
        ∙ taken_is w.orders (fill (upto done w)) (fill (upto (done + n) w)) n m takes

-- ---- no unit, no trade
pub trades_none : (number : ℕ) (w : Sweep) → sweep_trades number (upto 0 w) ≡ []
trades_none number w =
    trades_are number w 0
    ∙ ap in_order (none_given (λ (i : Positioned). given_of number w i (fill (upto 0 w) i)) (queue w) (λ i. ap (given_of number w i) (fill_past w 0 i (omega arith))))

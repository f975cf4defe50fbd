-- How far a sweep has come: it has traded what it trades for an incoming order with fewer units, and each trade takes it on.
use Rattle.std.proofs.Common.{◌≡◌, ℕ, ◌+◌, ◌-◌, ◌<◌, ◌≤◌, min, Bool, true, false, ◌&&◌, if◌then◌else◌, List, [], ◌∷◌, ◌++◌, length, Contains, length-append, append_assoc, append-nil, Option, Some, None, refl, sym, ap, subst, ◌∙◌, ◌⊎◌, inl, inr, arith}
use Rattle.std.specs.Prelude.{nat_lt}
use Rattle.std.proofs.lemmas.Bool.{and_parts}
use Rattle.xm_book.specs.Queues.{best_order, taken_from_best}
use Rattle.xm_slots.proofs.Tests.{same_some, some_none}
use Rattle.xm_slots.proofs.Members.{Passes-filter}
use Rattle.xm_book.proofs.Remaining.{all_kept, lessened, no_best_left}
use Rattle.xm_book.proofs.Shortening.{no_more, one_less, some_there}
use Rattle.xm_match.specs.Meeting.{is_kind_met, meets_inside, next_met, price_of_kind, terms_of, trade_up_to}
use Rattle.xm_match.specs.declared.meeting.Next.TheVariants.{Inside}
use Rattle.xm_match.proofs.Cuts.{AllDone, IsCut, IsDone, IsNext, IsSound, executable_next, fill_past, filled_whole, next_or_all, some_units, upto}
use Rattle.xm_match.proofs.NextTrade.{inside, next_trade, trade_if_met}
use Rattle.xm_match.proofs.Trading.{best_is, best_taken, cut_after, done_after, last_trade, nothing_yet, quantity_is, rest_apart_too, trade_of, trades_none}
use Rattle.xm_rules.specs.Active.{Positioned, is_active_on, positioned_from}
use Rattle.xm_rules.specs.Orders.{meets, trade_between}
use Rattle.xm_rules.specs.Priority.{without_units}
use Rattle.xm_rules.specs.State.{inside_both}
use Rattle.xm_rules.specs.Sweep.{Sweep, fill, filled, is_executable, is_met_inside, meet_price, other_side, queue, sweep_trades, units_before}
use Rattle.xm_rules.specs.Sweep as rules
use Rattle.xm_rules.specs.declared.orders.Order.{Order}
use Rattle.xm_rules.specs.declared.orders.OrderKind.{OrderKind}
use Rattle.xm_rules.specs.declared.orders.OrderKind.TheVariants.{Market, Limit}
use Rattle.xm_rules.specs.declared.orders.Trade.{Trade}
use Rattle.xm_rules.specs.declared.orders.TradeKind.TheVariants as trade_kind
use Rattle.xm_rules.specs.declared.phases.Phase.TheVariants.{Continuous}
use Rattle.xm_rules.proofs.Queues.{units}
use Rattle.xm_rules.proofs.Sweeps.{filled_within}

-- ---- the terms say what the rules say
pub price_same : (w : Sweep) (kind : OrderKind) → price_of_kind (terms_of w) kind ≡ rules.price_met w kind
price_same w Market = refl
price_same w (Limit p) = refl

pub on_side : (w : Sweep) (m : Positioned) → Contains (queue w) m → is_active_on Continuous (other_side w) m ≡ true
on_side w m at = let p = Passes-filter (is_active_on Continuous (other_side w)) (positioned_from 0 w.orders) m at in p.passes

pub met_same : (w : Sweep) (m : Positioned) → Contains (queue w) m → is_kind_met (terms_of w) m.order.kind ≡ rules.is_met w m
met_same w m at = sym (ap (λ (b : Bool). b && meets w.incoming.side w.incoming.kind m.order.kind) (on_side w m at))

pub inside_same : (w : Sweep) (m : Positioned) → Contains (queue w) m → meets_inside (terms_of w) m.order.kind ≡ is_met_inside w m
inside_same w m at = (λ i. met_same w m at i && inside_both w.ranges (price_same w m.order.kind i))

-- ---- how far it has come
pub record Progress (w : Sweep) (number left : ℕ) (now : List Order) (old made : List Trade) (from room : ℕ) : Type 0 where
  pub done : ℕ
  pub whole : done + left ≡ w.incoming.rest
  pub orders : now ≡ without_units (fill (upto done w)) w.orders
  pub trades : made ≡ old ++ sweep_trades number (upto done w)
  pub rooms : room + length (sweep_trades number (upto done w)) ≡ from
  pub is_done : IsDone w done
  pub cut : 0 < left → IsCut w done
  pub units_left : 0 < left → length now + length (sweep_trades number (upto done w)) ≤ length w.orders
  pub at_most : length now + length (sweep_trades number (upto done w)) ≤ length w.orders + 1
  pub enough : length w.orders ≤ from

-- what a trade of so many units does
pub record Turn (w : Sweep) (number left : ℕ) (now : List Order) (old made : List Trade) (from room : ℕ) (trade : Trade) (n : ℕ) : Type 0 where
  pub best : Order
  pub is_best : best_order Continuous (other_side w) now ≡ Some best
  pub some : 0 < n
  pub fits : n ≤ best.rest
  pub within : n ≤ left
  pub has_room : 0 < room
  pub next : Progress w number (left - n) (taken_from_best Continuous (other_side w) n now) old (made ++ trade ∷ []) from (room - 1)

is_some : (b : Bool) (t u : Trade) → Some t ≡ (if b then Some u else None) → (b ≡ true) × (t ≡ u)
is_some true t u e = (refl, same_some e)
is_some false t u e = absurd (some_none e)

nothing_at_zero : (w : Sweep) (number left : ℕ) (o : Option Order) → left ≡ 0 → trade_if_met number (terms_of w) left o ≡ None
nothing_at_zero w number left None e = refl
nothing_at_zero w number left (Some o) e = ap (λ (n : ℕ). trade_if_met number (terms_of w) n (Some o)) e

pub some_or_none : (left : ℕ) → (0 < left) ⊎ (left ≡ 0)
some_or_none left = grind arith

-- ---- the next trade
module _ (w : Sweep) (number left : ℕ) (now : List Order) (old made : List Trade) (from room : ℕ) (s : IsSound w) (p : Progress w number left now old made from room) where
  pub no_best : AllDone w p.done → best_order Continuous (other_side w) now ≡ None
  no_best all =
      ap (best_order Continuous (other_side w)) p.orders
      ∙ no_best_left (fill (upto p.done w)) Continuous (other_side w) w.orders (λ i at. let f = filled_whole w p.done s p.is_done i at (all i at) in omega arith)

  module _ (some : 0 < left) (m : Positioned) (next : IsNext w p.done m) where
    pub best_now : best_order Continuous (other_side w) now ≡ Some (lessened (fill (upto p.done w)) m)
    best_now = ap (best_order Continuous (other_side w)) p.orders ∙ best_is w number p.done s p.is_done (p.cut some) m next

    abbrev pub count : ℕ
    count = min (units m) left

    rest_now : units m - fill (upto p.done w) m ≡ units m
    rest_now = let e = nothing_yet w number p.done s p.is_done (p.cut some) m next in omega arith

    trade_same : trade_up_to number (terms_of w) left (lessened (fill (upto p.done w)) m) ≡ trade_of number w count m
    trade_same =
        (λ i. trade_between number trade_kind.Continuous (price_same w m.order.kind i) (min (rest_now i) left) w.incoming.side w.incoming (lessened (fill (upto p.done w)) m))
        ∙ rest_apart_too number trade_kind.Continuous (meet_price w m) count w.incoming.side w.incoming m.order (units m - fill (upto p.done w) m)

    pub next_is : next_trade number (terms_of w) left now ≡ (if nat_lt 0 left && is_met_inside w m then Some (trade_of number w count m) else None)
    next_is =
        ap (trade_if_met number (terms_of w) left) best_now
        ∙ (λ i. if nat_lt 0 left && inside_same w m next.contained i then Some (trade_same i) else None)

    module _ (met : is_met_inside w m ≡ true) where
      exec : is_executable w m ≡ true
      exec = executable_next w p.done s p.is_done (p.cut some) m next met

      some_traded : 0 < count
      some_traded = let u = some_units w s m next.contained in omega arith

      trades_after : sweep_trades number (upto (p.done + count) w) ≡ sweep_trades number (upto p.done w) ++ trade_of number w count m ∷ []
      trades_after = last_trade w number p.done s p.is_done (p.cut some) m next exec count some_traded (omega arith)

      ended : 0 < left - count → count ≡ units m
      ended l = omega arith

      room_there : 0 < room
      room_there =
          let l = some_there Continuous (other_side w) now (lessened (fill (upto p.done w)) m) best_now in
          let u = p.units_left some in
          let e = p.enough in
          let r = p.rooms in
          omega arith

      trades_longer : length (sweep_trades number (upto (p.done + count) w)) ≡ length (sweep_trades number (upto p.done w)) + 1
      trades_longer = ap length trades_after ∙ length-append (sweep_trades number (upto p.done w)) (trade_of number w count m ∷ [])

      on : Progress w number (left - count) (taken_from_best Continuous (other_side w) count now) old (made ++ trade_of number w count m ∷ []) from (room - 1)
      on = record {
        done = p.done + count;
        whole = (let h = p.whole in omega arith);
        orders =
            ap (taken_from_best Continuous (other_side w) count) p.orders
            ∙ best_taken w number p.done s p.is_done (p.cut some) m next exec count some_traded (omega arith);
        trades =
            ap (λ (l : List Trade). l ++ trade_of number w count m ∷ []) p.trades
            ∙ append_assoc old (sweep_trades number (upto p.done w)) (trade_of number w count m ∷ [])
            ∙ ap (λ (l : List Trade). old ++ l) (sym trades_after);
        rooms = (let long = trades_longer in let r = p.rooms in let h = room_there in omega arith);
        is_done = done_after w number p.done s p.is_done (p.cut some) m next exec count some_traded (omega arith);
        cut = λ l. cut_after w number p.done s p.is_done (p.cut some) m next exec count some_traded (omega arith) (ended l);
        units_left = λ l.
            let f = one_less Continuous (other_side w) count now (lessened (fill (upto p.done w)) m) best_now (let r = rest_now in let e = ended l in omega arith) in
            let long = trades_longer in
            let u = p.units_left some in
            omega arith;
        at_most =
            (let f = no_more count now (best_order Continuous (other_side w) now) in let long = trades_longer in let u = p.units_left some in omega arith);
        enough = p.enough;
      }

      turn_next : Turn w number left now old made from room (trade_of number w count m) count
      turn_next = record {
        best = lessened (fill (upto p.done w)) m;
        is_best = best_now;
        some = some_traded;
        fits = (let r = rest_now in omega arith);
        within = omega arith;
        has_room = room_there;
        next = on;
      }

    turn_at : (trade : Trade) → Some trade ≡ next_trade number (terms_of w) left now → Turn w number left now old made from room trade trade.quantity
    turn_at trade e =
        let found = is_some (nat_lt 0 left && is_met_inside w m) trade (trade_of number w count m) (e ∙ next_is) in
        let met = (and_parts (nat_lt 0 left) (is_met_inside w m) found.0).1 in
        let quantity = quantity_is w number p.done s p.is_done (p.cut some) m next (exec met) count (some_traded met) (omega arith) in
        subst (λ (t : Trade). Turn w number left now old made from room t t.quantity) (sym found.1)
        (subst (λ (n : ℕ). Turn w number left now old made from room (trade_of number w count m) n) (sym quantity) (turn_next met))

  turn_by : (trade : Trade) → Some trade ≡ next_trade number (terms_of w) left now → (some : 0 < left) → AllDone w p.done ⊎ ((m : Positioned) × IsNext w p.done m)
      → Turn w number left now old made from room trade trade.quantity
  turn_by trade e some (inl all) = absurd (some_none (e ∙ ap (trade_if_met number (terms_of w) left) (no_best all)))
  turn_by trade e some (inr next) = turn_at some next.0 next.1 trade e

  turn_if : (trade : Trade) → Some trade ≡ next_trade number (terms_of w) left now → (0 < left) ⊎ (left ≡ 0) → Turn w number left now old made from room trade trade.quantity
  turn_if trade e (inl some) = turn_by trade e some (next_or_all w p.done s p.is_done (p.cut some))
  turn_if trade e (inr none) = absurd (some_none (e ∙ nothing_at_zero w number left (best_order Continuous (other_side w) now) none))

  -- the trade with an order that is met inside both ranges
  pub turn : (o : Order) → next_met (terms_of w) left now ≡ Inside o → (trade : Trade) → trade ≡ trade_up_to number (terms_of w) left o
      → Turn w number left now old made from room trade trade.quantity
  turn o met trade same = turn_if trade (ap (λ (t : Trade). Some t) same ∙ sym ((inside (terms_of w) left now o met).trade number)) (some_or_none left)

-- ---- at the begin
none_done : (w : Sweep) → IsDone w 0
none_done w = record { executed = λ i at l. absurd (omega arith); whole = (let f = filled_within (upto 0 w) in omega arith) }

pub at_begin : (w : Sweep) (number : ℕ) (old : List Trade) (room : ℕ) → IsSound w → length w.orders ≤ room
    → Progress w number w.incoming.rest w.orders old old room room
at_begin w number old room s enough = record {
  done = 0;
  whole = omega arith;
  orders = sym (all_kept (fill (upto 0 w)) w.orders (λ i. fill_past w 0 i (omega arith)) s.rests);
  trades = sym (append-nil old) ∙ ap (λ (l : List Trade). old ++ l) (sym (trades_none number w));
  rooms = (let e = long_none in omega arith);
  is_done = none_done w;
  cut = λ l. record { cut = λ i at. inr (omega arith) };
  units_left = λ l. let e = long_none in omega arith;
  at_most = (let e = long_none in omega arith);
  enough = enough;
}
  where
    long_none : length (sweep_trades number (upto 0 w)) ≡ 0
    long_none = ap length (trades_none number w)

pub the_same : (w : Sweep) (number left : ℕ) (now : List Order) (old made : List Trade) (from room k : ℕ) (os : List Order) (ts : List Trade) (n : ℕ)
    → k ≡ left → os ≡ now → ts ≡ made → n ≡ room → Progress w number left now old made from room → Progress w number k os old ts from n
the_same w number left now old made from room k os ts n e f g h p = rw (e, f, g, h) p

-- Where there is no further trade, a sweep has come to its end: it has filled what the rules fill, and the price at which the next order
-- is met interrupts it.
use Rattle.std.proofs.Common.{◌≡◌, ℕ, ◌+◌, ◌-◌, ◌<◌, ◌≤◌, Bool, true, false, not, ◌&&◌, if◌then◌else◌, List, ◌++◌, length, sum_by, Contains, Option, Some, None, option_map, refl, sym, ap, ◌∙◌, ◌⊎◌, inl, inr, arith}
use Rattle.std.specs.List.{list_all}
use Rattle.std.specs.Prelude.{nat_lt}
use Rattle.std.proofs.lemmas.Bool.{and_from, both_ways, false_from_ne_true, lt-ltb, ltb-true}
use Rattle.std.proofs.lemmas.List.Elements.{All-contains_itself}
use Rattle.xm_events.specs.Story.{interruption}
use Rattle.xm_book.proofs.Cutting.{given_same}
use Rattle.xm_slots.proofs.Tests.{some_none}
use Rattle.xm_slots.proofs.Members.{Contains-filter, Passes-filter, find-none, find-only}
use Rattle.xm_book.proofs.Remaining.{same_left}
use Rattle.xm_match.specs.Meeting.{EachUsesUp, next_met, terms_of}
use Rattle.xm_match.specs.declared.meeting.Next.TheVariants.{Inside}
use Rattle.xm_match.proofs.Cuts.{AllDone, IsNext, IsSound, fill_none, fill_of, next_or_all, not_behind, not_inside, placed, some_units, upto}
use Rattle.xm_match.proofs.NextTrade.{at_end, next_price, next_trade, price_if_left, price_if_met}
use Rattle.xm_match.proofs.Lists.{all_of_each, all_pass}
use Rattle.xm_match.proofs.Progress.{Progress, best_now, count, met_same, next_is, no_best, price_same, some_or_none}
use Rattle.xm_match.proofs.Trading.{fill_off, given_of, trade_of, trades_are}
use Rattle.xm_rules.specs.Active.{Positioned, is_active_on, positioned_from}
use Rattle.xm_rules.specs.Priority.{in_order, is_ahead}
use Rattle.xm_rules.specs.Sweep.{Sweep, ahead_of, fill, filled, interrupts_at, is_executable, is_met, meet_price, is_met_inside, orders_after_sweep, other_side, queue, rest_after, sweep_trades, units_before}
use Rattle.xm_rules.specs.declared.orders.Order.{Order}
use Rattle.xm_rules.specs.declared.orders.Trade.{Trade}
use Rattle.xm_rules.specs.declared.phases.Phase.TheVariants.{Continuous}
use Rattle.xm_rules.proofs.Queues.{units}
use Rattle.xm_rules.proofs.Sums.{sum-same}

pub record Ended (w : Sweep) (number left : ℕ) (now : List Order) (old made : List Trade) (from room : ℕ) : Type 0 where
  pub orders : now ≡ orders_after_sweep w
  pub trades : made ≡ old ++ sweep_trades number w
  pub rooms : room + length (sweep_trades number w) ≡ from
  pub filled : w.incoming.rest - left ≡ filled w
  pub rest : left ≡ rest_after w
  pub used_up : EachUsesUp number w
  pub interruption : next_price (terms_of w) left now ≡ interruption w

-- no order is filled another number of units
abbrev FillsSame : Sweep → ℕ → Type 0
FillsSame w done = (i : Positioned) → Contains (queue w) i → fill (upto done w) i ≡ fill w i

some_traded : (a : Bool) (t : Trade) → (if a then Some t else None) ≡ None → a ≡ false
some_traded true t e = absurd (some_none e)
some_traded false t e = refl

not_executable : (a e b : Bool) → e ≡ true → ((a && not e) && b) ≡ false
not_executable true true b h = refl
not_executable false true b h = refl
not_executable a false b h = absurd (cc)

not_met : (a e b : Bool) → a ≡ false → ((a && not e) && b) ≡ false
not_met true e b h = absurd (cc)
not_met false e b h = refl

not_all : (a e l b : Bool) → l ≡ false → ((a && not e) && (l && b)) ≡ false
not_all true true l b h = refl
not_all true false true b h = absurd (cc)
not_all true false false b h = refl
not_all false e l b h = refl

no_units : (a e l b : Bool) → (b ≡ true → e ≡ true) → ((a && not e) && (l && b)) ≡ false
no_units true true l b h = refl
no_units true false true true h = absurd (let f = h refl in cc)
no_units true false true false h = refl
no_units true false false b h = refl
no_units false e l b h = refl

no_price : (b : Bool) → let none : Option ℕ = None in (if b then none else none) ≡ none
no_price true = refl
no_price false = refl

module _ (w : Sweep) (number left : ℕ) (now : List Order) (old made : List Trade) (from room : ℕ) (s : IsSound w) (p : Progress w number left now old made from room) where
  -- so it has ended
  ended_from : FillsSame w p.done → next_price (terms_of w) left now ≡ interruption w → Ended w number left now old made from room
  ended_from same interrupts =
      let trades : sweep_trades number (upto p.done w) ≡ sweep_trades number w =
      trades_are number w p.done
      ∙ ap in_order (given_same (λ (i : Positioned). given_of number w i (fill w i)) (λ (i : Positioned). given_of number w i (fill (upto p.done w) i)) (queue w) (λ i at. ap (given_of number w i) (same i at)))
      ∙ sym (trades_are number w w.incoming.rest) in
      let sums : sum_by (fill (upto p.done w)) (queue w) ≡ sum_by (fill w) (queue w) =
      sum-same (fill (upto p.done w)) (fill w) (queue w) (λ k e l. same _ (All-contains_itself (queue w) k e l)) in
      let whole = p.is_done.whole in
      let all = p.whole in
      let orders : now ≡ orders_after_sweep w =
      p.orders ∙ same_left (fill (upto p.done w)) (fill w) w.orders (λ i at. of_list i at (is_active_on Continuous (other_side w) i) refl) in
      record {
        orders = orders;
        trades = p.trades ∙ ap (λ (l : List Trade). old ++ l) trades;
        rooms = (let long = ap length trades in let r = p.rooms in omega arith);
        filled = omega arith;
        rest = omega arith;
        used_up = (let long = ap length trades in let shorter = ap length orders in record { units_left = λ some. let u = p.units_left (omega arith) in omega arith; at_most = (let u = p.at_most in omega arith) });
        interruption = interrupts;
      }
    where
      of_list : (i : Positioned) → Contains (positioned_from 0 w.orders) i → (b : Bool) → is_active_on Continuous (other_side w) i ≡ b → fill (upto p.done w) i ≡ fill w i
      of_list i at true e = same i (Contains-filter (is_active_on Continuous (other_side w)) (positioned_from 0 w.orders) i e at)
      of_list i at false e = fill_off w p.done i e ∙ sym (fill_off w w.incoming.rest i e)

  -- ---- nothing is left of the incoming order
  all_executed : left ≡ 0 → p.done ≡ w.incoming.rest
  all_executed e = let h = p.whole in omega arith

  nothing_left : left ≡ 0 → Ended w number left now old made from room
  nothing_left e =
      ended_from (λ i at. ap (λ (n : ℕ). fill (upto n w) i) (all_executed e))
      (ap (λ (n : ℕ). next_price (terms_of w) n now) e
      ∙ sym (ap (option_map (meet_price w)) (find-none (interrupts_at w) (queue w) (λ i at.
      no_units (is_met w i) (is_executable w i) (list_all (is_executable w) (ahead_of w i)) (nat_lt (units_before w i) w.incoming.rest)
      (λ h. let l = ltb-true (units_before w i) w.incoming.rest h in let f = all_executed e in p.is_done.executed i at (omega arith))))))

  -- ---- units are left
  module _ (some : 0 < left) where
    executed_past : (i : Positioned) → Contains (queue w) i → units_before w i + units i ≤ p.done → is_executable w i ≡ true
    executed_past i at l = let u = some_units w s i at in p.is_done.executed i at (omega arith)

    same_past : (i : Positioned) → Contains (queue w) i → units_before w i + units i ≤ p.done → fill (upto p.done w) i ≡ fill w i
    same_past i at l =
        let exec = executed_past i at l in
        let a = fill_of w p.done i exec in
        let b = fill_of w w.incoming.rest i exec in
        let h = p.whole in
        omega arith

    same_none : (i : Positioned) → is_executable w i ≡ false → fill (upto p.done w) i ≡ fill w i
    same_none i e = fill_none w p.done i e ∙ sym (fill_none w w.incoming.rest i e)

    -- no order is left
    all_past : AllDone w p.done → Ended w number left now old made from room
    all_past all =
        ended_from (λ i at. same_past i at (all i at))
        (ap (price_if_left (terms_of w) left) (no_best w number left now old made from room s p all)
        ∙ no_price (nat_lt 0 left)
        ∙ sym (ap (option_map (meet_price w)) (find-none (interrupts_at w) (queue w) (λ i at.
        not_executable (is_met w i) (is_executable w i) (list_all (is_executable w) (ahead_of w i) && nat_lt (units_before w i) w.incoming.rest) (executed_past i at (all i at))))))

    -- the next order isn't met inside the ranges
    module _ (m : Positioned) (next : IsNext w p.done m) (outside : is_met_inside w m ≡ false) where
      abbrev Place : Positioned → Type 0
      Place i = (units_before w i + units i ≤ p.done) ⊎ ((i ≡ m) ⊎ (is_ahead (other_side w) m i ≡ true))

      place : (i : Positioned) → Contains (queue w) i → Place i
      place = placed w p.done s p.is_done (p.cut some) m next

      not_next : is_executable w m ≡ false
      not_next = not_inside w m outside

      same_by : (i : Positioned) → Contains (queue w) i → Place i → fill (upto p.done w) i ≡ fill w i
      same_by i at (inl l) = same_past i at l
      same_by i at (inr (inl e)) = same_none i (ap (is_executable w) e ∙ not_next)
      same_by i at (inr (inr h)) = same_none i (not_behind w m outside next.contained i h)

      price_now : next_price (terms_of w) left now ≡ (if is_met w m then Some (meet_price w m) else None)
      price_now =
          (λ k. if lt-ltb 0 left some k then price_if_met (terms_of w) (best_now w number left now old made from room s p some m next k) else None)
          ∙ (λ k. if met_same w m next.contained k then Some (price_same w m.order.kind k) else None)

      -- an order behind the next one doesn't interrupt it
      behind_next : (i : Positioned) → is_ahead (other_side w) m i ≡ true → interrupts_at w i ≡ false
      behind_next i h =
          not_all (is_met w i) (is_executable w i) (list_all (is_executable w) (ahead_of w i)) (nat_lt (units_before w i) w.incoming.rest)
          (false_from_ne_true (list_all (is_executable w) (ahead_of w i))
          (λ all. both_ways (is_executable w m) not_next
          (all_pass (is_executable w) (ahead_of w i) m all (Contains-filter (λ (j : Positioned). is_ahead (other_side w) j i) (queue w) m h next.contained))))

      no_interruption : is_met w m ≡ false → (i : Positioned) → Contains (queue w) i → Place i → interrupts_at w i ≡ false
      no_interruption e i at (inl l) =
          not_executable (is_met w i) (is_executable w i) (list_all (is_executable w) (ahead_of w i) && nat_lt (units_before w i) w.incoming.rest) (executed_past i at l)
      no_interruption e i at (inr (inl f)) =
          not_met (is_met w i) (is_executable w i) (list_all (is_executable w) (ahead_of w i) && nat_lt (units_before w i) w.incoming.rest) (ap (is_met w) f ∙ e)
      no_interruption e i at (inr (inr h)) = behind_next i h

      interrupts_next : is_met w m ≡ true → interrupts_at w m ≡ true
      interrupts_next e =
          and_from (is_met w m && not (is_executable w m)) (list_all (is_executable w) (ahead_of w m) && nat_lt (units_before w m) w.incoming.rest)
          (and_from (is_met w m) (not (is_executable w m)) e (ap not not_next))
          (and_from (list_all (is_executable w) (ahead_of w m)) (nat_lt (units_before w m) w.incoming.rest)
          (all_of_each (is_executable w) (ahead_of w m) (λ i at.
          let passes = Passes-filter (λ (j : Positioned). is_ahead (other_side w) j m) (queue w) i at in
          executed_past i passes.contains (next.ahead i passes.contains passes.passes)))
          (lt-ltb (units_before w m) w.incoming.rest (let at = next.at in let h = p.whole in omega arith)))

      -- no other order interrupts it
      the_next : (i : Positioned) → Contains (queue w) i → interrupts_at w i ≡ true → Place i → i ≡ m
      the_next i at h (inl l) =
          absurd (both_ways (interrupts_at w i)
          (not_executable (is_met w i) (is_executable w i) (list_all (is_executable w) (ahead_of w i) && nat_lt (units_before w i) w.incoming.rest) (executed_past i at l)) h)
      the_next i at h (inr (inl e)) = e
      the_next i at h (inr (inr behind)) = absurd (both_ways (interrupts_at w i) (behind_next i behind) h)

      price_by : (b : Bool) → is_met w m ≡ b → (if is_met w m then Some (meet_price w m) else None) ≡ interruption w
      price_by true e =
          (λ k. if e k then Some (meet_price w m) else None)
          ∙ sym (ap (option_map (meet_price w)) (find-only (interrupts_at w) (queue w) m (record { contains = next.contained; passes = interrupts_next e }) (λ i at h. the_next i at h (place i at))))
      price_by false e =
          (λ k. if e k then Some (meet_price w m) else None) ∙ sym (ap (option_map (meet_price w)) (find-none (interrupts_at w) (queue w) (λ i at. no_interruption e i at (place i at))))

      pub outside_ranges : Ended w number left now old made from room
      outside_ranges = ended_from (λ i at. same_by i at (place i at)) (price_now ∙ price_by (is_met w m) refl)

    ended_by : next_trade number (terms_of w) left now ≡ None → AllDone w p.done ⊎ ((m : Positioned) × IsNext w p.done m) → Ended w number left now old made from room
    ended_by e (inl all) = all_past all
    ended_by e (inr next) =
        let m = next.0 in
        let no_trade : (nat_lt 0 left && is_met_inside w m) ≡ false =
        some_traded (nat_lt 0 left && is_met_inside w m) (trade_of number w (count w number left now old made from room s p some m next.1) m)
        (sym (next_is w number left now old made from room s p some m next.1) ∙ e) in
        outside_ranges m next.1 (ap (λ (b : Bool). b && is_met_inside w m) (sym (lt-ltb 0 left some)) ∙ no_trade)

  ended_if : next_trade number (terms_of w) left now ≡ None → (0 < left) ⊎ (left ≡ 0) → Ended w number left now old made from room
  ended_if e (inl some) = ended_by some e (next_or_all w p.done s p.is_done (p.cut some))
  ended_if e (inr none) = nothing_left none

  -- where no further order is met inside both ranges
  pub ended : ((o : Order) → next_met (terms_of w) left now ≡ Inside o → ⊥) → Ended w number left now old made from room
  ended none = ended_if ((at_end (terms_of w) left now none).none number) (some_or_none left)

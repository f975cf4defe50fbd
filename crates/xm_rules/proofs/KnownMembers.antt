-- All live orders, held stops and trades of a lawful journal are of members that the desk knows.
use Rattle.std.proofs.Common.{◌≡◌, ℕ, ◌-◌, ◌<◌, max, min, Bool, true, false, if◌then◌else◌, All, IfSome, get_or, filter, map, Some, None, refl, ap, subst, arith}
use Rattle.std.specs.List.{filter_map, flat_map}
use Rattle.std.specs.Prelude.{nat_le, nat_lt}
use Rattle.std.proofs.lemmas.Bool.Decides.{nat_tests}
use Rattle.std.proofs.lemmas.List.Elements.{All-filter, All-map, All-weaker}
use Rattle.xm_rules.specs.Active.{Positioned, is_active_on, positioned_from}
use Rattle.xm_rules.specs.Allotment.{Uncrossing, auction_trades, end_unit, first_unit, parties, side_queue, takes_part, trade_of_pair, traded_units}
use Rattle.xm_rules.specs.Orders.{trade_between}
use Rattle.xm_rules.specs.Step.{Journal, is_lawful, replay}
use Rattle.xm_rules.specs.Sums.{IsBetweenMembers}
use Rattle.xm_rules.specs.Settling.{sweep_of}
use Rattle.xm_rules.specs.Sweep.{Sweep, fill, other_side, queue, sweep_trades, trade_with, units_before}
use Rattle.xm_rules.specs.declared.commands.Command.TheVariants.{Enter}
use Rattle.xm_rules.specs.declared.orders.Order.{Order}
use Rattle.xm_rules.specs.declared.orders.Side.{Side}
use Rattle.xm_rules.specs.declared.orders.Side.TheVariants.{Buy, Sell}
use Rattle.xm_rules.specs.declared.orders.Stop.{Stop}
use Rattle.xm_rules.specs.declared.orders.Trade.{Trade}
use Rattle.xm_rules.specs.declared.orders.TradeKind.{TradeKind}
use Rattle.xm_rules.specs.declared.orders.TradeKind.TheVariants as made
use Rattle.xm_rules.specs.declared.phases.Phase.TheVariants.{Call, Continuous}
use Rattle.xm_rules.specs.declared.settings.DeskSettings.{DeskSettings}
use Rattle.xm_rules.proofs.Accepted.{accepted}
use Rattle.xm_rules.proofs.CarriedEntries.{CanBeCarried, CanBeHeld, carriable-parts}
use Rattle.xm_rules.proofs.CallTrades.{All-filter_map, All-in_order, call_of}
use Rattle.xm_rules.proofs.EachKept.{AreKept, Holds, lawful-holds, placed}
use Rattle.xm_rules.proofs.TradeSizes.{all_of_lists}

abbrev pub IsOf : ℕ → Order → Type 0
IsOf members o = o.member < members

abbrev pub IsStopOf : ℕ → Stop → Type 0
IsStopOf members stop = stop.member < members

between : (members number : ℕ) (kind : TradeKind) (price quantity : ℕ) (side : Side) (o i : Order)
    → o.member < members → i.member < members → IsBetweenMembers members (trade_between number kind price quantity side o i)
between members number kind price quantity Buy o i h k = record { buyer = h; seller = k }
between members number kind price quantity Sell o i h k = record { buyer = k; seller = h }

module _ (members : ℕ) where
  abbrev PlaceOf : Positioned → Type 0
  PlaceOf i = i.order.member < members

  of_sweep : (number : ℕ) (w : Sweep) → All (IsOf members) w.orders → w.incoming.member < members → All (IsBetweenMembers members) (sweep_trades number w)
  of_sweep number w h own =
      let filled_ones = filter (λ (i : Positioned). nat_lt 0 (fill w i)) (queue w) in
      let each : All PlaceOf filled_ones =
      All-filter (λ (i : Positioned). nat_lt 0 (fill w i)) PlaceOf (queue w) (All-filter (is_active_on Continuous (other_side w)) PlaceOf (positioned_from 0 w.orders) (placed (IsOf members) 0 w.orders h)) in
      All-in_order (IsBetweenMembers members) (map (λ (i : Positioned). (units_before w i, trade_with number w i)) filled_ones)
      (All-map (λ (x : ℕ × Trade). IsBetweenMembers members x.1) (λ (i : Positioned). (units_before w i, trade_with number w i)) filled_ones
      (λ k d l. between members number _ _ _ w.incoming.side w.incoming (get_or filled_ones k d).order own (each k d l)))

  abbrev Paired : ℕ × Trade → Type 0
  Paired x = IsBetweenMembers members x.1

  pair_if : (number : ℕ) (u : Uncrossing) (b s : Positioned) (from to : ℕ) → PlaceOf b → PlaceOf s → IfSome (traded_units number u b s from to) Paired
  pair_if number u b s from to h k = by (nat_lt from to) where
    by : (t : Bool) → IfSome (if t then Some (from, trade_between number (made.Auction u.auction u.stage) u.price (to - from) Buy b.order s.order) else None) Paired
    by true = record { buyer = h; seller = k }
    by false = tt

  of_call : (number : ℕ) (u : Uncrossing) → All (IsOf members) u.orders → All (IsBetweenMembers members) (auction_trades number u)
  of_call number u h =
      let on_side = λ (side : Side). All-filter (takes_part u side) PlaceOf (side_queue u side) (All-filter (is_active_on (Call u.auction u.stage) side) PlaceOf (positioned_from 0 u.orders) (placed (IsOf members) 0 u.orders h)) in
      let with_sells = λ (b : Positioned). filter_map (trade_of_pair number u b) (parties u Sell) in
      All-in_order (IsBetweenMembers members) (flat_map with_sells (parties u Buy))
      (all_of_lists Paired with_sells (parties u Buy)
      (λ k d l. (let b = get_or (parties u Buy) k d in
      All-filter_map Paired (trade_of_pair number u b) (parties u Sell)
      (λ k' d' l'. (let s = get_or (parties u Sell) k' d' in
      pair_if number u b s (max (first_unit u Buy b) (first_unit u Sell s)) (min (end_unit u Buy b) (end_unit u Sell s)) (on_side Buy k d l) (on_side Sell k' d' l'))))))

is_below : (members member : ℕ) → nat_le members member ≡ false → member < members
is_below members member e = grind (arith, nat_tests)

members-kept : (settings : DeskSettings) → AreKept (IsOf settings.members) (IsStopOf settings.members) (IsBetweenMembers settings.members) settings
members-kept settings =
    record {
      begins = λ h.
          let parts = carriable-parts settings h in (
            All-weaker (CanBeCarried settings.members) (IsOf settings.members) (λ o c. c.known) settings.carried.orders parts.orders,
            All-weaker (CanBeHeld settings.members) (IsStopOf settings.members) (λ stop c. c.order.known) settings.carried.stops parts.stops,
          );
      rests = λ o rest own. own;
      held = λ trigger o own. own;
      comes = λ stop own. own;
      enters = λ s member reference side kind quantity validity restriction condition same h.
          subst (λ n. member < n) (ap (λ (d : DeskSettings). d.members) same)
          (is_below s.settings.members member (accepted s (Enter member reference side kind quantity validity restriction condition) h).known);
      changes = λ s member reference quantity limit o h own. own;
      sweeps = λ s o number k own. of_sweep settings.members number (sweep_of s o) k.orders own;
      calls = λ s auction stage priced number k e. of_call settings.members number (call_of s auction stage priced) k.orders;
    }

pub known : (j : Journal) → is_lawful j ≡ true → Holds (IsOf j.settings.members) (IsStopOf j.settings.members) (IsBetweenMembers j.settings.members) j.settings (replay j)
known j h = lawful-holds (IsOf j.settings.members) (IsStopOf j.settings.members) (IsBetweenMembers j.settings.members) j.settings (members-kept j.settings) j refl h

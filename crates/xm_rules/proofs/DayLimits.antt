-- What every lawful journal keeps: each name is used once, and no more is traded than its commands brought in.
use Rattle.std.proofs.Common.{◌≡◌, ℕ, ◌+◌, ◌*◌, ◌<◌, ◌≤◌, min, true, false, None, ap, ◌∙◌, All, List, [], ◌∷◌, length, sum_by, arith}
use Rattle.std.specs.Prelude.{nat_le}
use Rattle.std.proofs.lemmas.Bool.Decides.{nat_tests}
use Rattle.std.proofs.lemmas.List.Elements.{All-head, All-tail}
use Rattle.std.proofs.lemmas.List.Sums.{sum_by-cons}
use Rattle.xm_rules.specs.Opening.{are_carriable, carried_over, is_still_valid, opening}
use Rattle.xm_rules.specs.Refusals.{refusal_of}
use Rattle.xm_rules.specs.State.{State}
use Rattle.xm_rules.specs.Step.{Journal, is_lawful, replay, step}
use Rattle.xm_rules.specs.declared.commands.Command.{Command}
use Rattle.xm_rules.specs.declared.commands.Command.TheVariants.{Enter, Change, Cancel, CancelAll, StartOpening, StartIntraday, StartClosing, Uncross, EndDay}
use Rattle.xm_rules.specs.Sums.{AreWithinLimits, total_quantity}
use Rattle.xm_rules.specs.declared.carried.TheConstants.{MAX_CARRIED}
use Rattle.xm_rules.specs.declared.orders.Order.{Order}
use Rattle.xm_rules.specs.declared.orders.Stop.{Stop}
use Rattle.xm_rules.specs.declared.orders.Trade.{Trade}
use Rattle.xm_rules.specs.declared.settings.DeskSettings.{DeskSettings}
use Rattle.xm_rules.specs.declared.totals.TheConstants.{MAX_TRADED_QUANTITY}
use Rattle.xm_ticks.specs.declared.numbers.TheConstants.{MAX_JOURNAL_LIMIT, MAX_PRICE, MAX_QUANTITY}
use Rattle.xm_rules.proofs.Accepted.{accepted, change-accepted, entry-accepted}
use Rattle.xm_rules.proofs.CarriedEntries.{CanBeCarried, CanBeHeld, carriable-parts}
use Rattle.xm_rules.proofs.InHand.{brought, in_hand, settle-more, step-more, stop_units}
use Rattle.xm_rules.proofs.Journals.{carries, step-accepted}
use Rattle.xm_rules.proofs.Kept.{step-settings}
use Rattle.xm_rules.proofs.OneName.{step-uses, uses}
use Rattle.xm_rules.proofs.Opening.{opening-settings, opening-uses}
use Rattle.xm_rules.proofs.Ranges.{range_high}
use Rattle.xm_rules.proofs.Replays.{lawful-has}
use Rattle.xm_rules.proofs.SettledSums.{part}
use Rattle.xm_rules.proofs.TimeLists.{rest_of}
use Rattle.xm_rules.proofs.TradeSizes.{money_within}

-- the orders and stops that earlier days left
abbrev pub entries_in : DeskSettings → ℕ
entries_in settings = length settings.carried.orders + length settings.carried.stops

pub record Kept (settings : DeskSettings) (s : State) : Type 0 where
  pub same : s.settings ≡ settings
  pub names : (member reference : ℕ) → uses member reference s ≤ 1
  -- at most the greatest quantity for each entry of an earlier day and for each command of a member, of which there are no more than the
  -- limit
  pub units : in_hand s ≤ MAX_QUANTITY * (entries_in settings + min s.accepted settings.limit)

room_left : (limit taken : ℕ) → nat_le (limit + 0) taken ≡ false → taken < limit
room_left limit taken e = grind (arith, nat_tests)

-- each command is one more, and those that bring units in are below the limit
brought_within : (s : State) (c : Command) → refusal_of s c ≡ None → brought c + MAX_QUANTITY * min s.accepted s.settings.limit ≤ MAX_QUANTITY * min (s.accepted + 1) s.settings.limit
brought_within s (Enter member reference side kind quantity validity restriction condition) h =
    omega (
      arith,
      range_high quantity (entry-accepted s member reference side kind quantity validity restriction condition h).quantity,
      room_left s.settings.limit s.accepted (accepted s (Enter member reference side kind quantity validity restriction condition) h).fits,
    )
brought_within s (Change member reference quantity limit) h =
    omega (
      arith,
      range_high quantity (change-accepted s member reference quantity limit h).quantity,
      room_left s.settings.limit s.accepted (accepted s (Change member reference quantity limit) h).fits,
    )
brought_within s (Cancel member reference) h = omega arith
brought_within s (CancelAll member) h = omega arith
brought_within s StartOpening h = omega arith
brought_within s StartIntraday h = omega arith
brought_within s StartClosing h = omega arith
brought_within s Uncross h = omega arith
brought_within s EndDay h = omega arith

kept_step : (settings : DeskSettings) (s : State) (c : Command) → refusal_of s c ≡ None → Kept settings s → Kept settings (step s c)
kept_step settings s c h k =
    let limit : s.settings.limit ≡ settings.limit = ap (λ (d : DeskSettings). d.limit) k.same in
    let before = k.units in
    record {
      same = step-settings s c ∙ k.same;
      names = λ member reference. step-uses member reference s c h (k.names member reference);
      units = omega (arith, limit, before, brought_within s c h, step-accepted s c, step-more s c (λ member reference. let l = k.names member reference in omega arith));
    }

units_of_orders : (members : ℕ) (os : List Order) → All (CanBeCarried members) os → sum_by rest_of os ≤ MAX_QUANTITY * length os
units_of_orders members [] h = omega arith
units_of_orders members (o ∷ os) h =
    omega (
      arith,
      sum_by-cons rest_of o os,
      range_high o.rest (All-head (CanBeCarried members) o os h).units,
      units_of_orders members os (All-tail (CanBeCarried members) o os h),
    )

units_of_stops : (members : ℕ) (stops : List Stop) → All (CanBeHeld members) stops → sum_by stop_units stops ≤ MAX_QUANTITY * length stops
units_of_stops members [] h = omega arith
units_of_stops members (stop ∷ stops) h =
    omega (
      arith,
      sum_by-cons stop_units stop stops,
      range_high stop.quantity (All-head (CanBeHeld members) stop stops h).order.units,
      units_of_stops members stops (All-tail (CanBeHeld members) stop stops h),
    )

units_at_first : (settings : DeskSettings) → are_carriable settings ≡ true → in_hand (opening settings) ≤ MAX_QUANTITY * entries_in settings
unfolding opening
units_at_first settings h =
    let parts = carriable-parts settings h in
    let entries = settings.carried in
    omega (
      arith,
      settle-more (carried_over settings),
      part rest_of (λ (o : Order). is_still_valid settings.today o.validity) entries.orders,
      part stop_units (λ (stop : Stop). is_still_valid settings.today stop.validity) entries.stops,
      units_of_orders settings.members entries.orders parts.orders,
      units_of_stops settings.members entries.stops parts.stops,
    )

pub kept : (j : Journal) → is_lawful j ≡ true → Kept j.settings (replay j)
kept j h =
    lawful-has (Kept j.settings) (kept_step j.settings) j h
    (λ carriable. record {
      same = opening-settings j.settings;
      names = λ member reference. opening-uses j.settings member reference carriable;
      units = omega (arith, units_at_first j.settings carriable);
    })

entries_few : (j : Journal) → is_lawful j ≡ true → entries_in j.settings ≤ MAX_CARRIED
entries_few j h = (carriable-parts j.settings (carries j h)).few

pub quantity_within : (j : Journal) → is_lawful j ≡ true → total_quantity (replay j).trades ≤ MAX_QUANTITY * (entries_in j.settings + j.settings.limit)
quantity_within j h = let units = (kept j h).units in omega arith

pub within_limits : (j : Journal) → is_lawful j ≡ true → j.settings.limit ≤ MAX_JOURNAL_LIMIT → All (λ (t : Trade). t.price ≤ MAX_PRICE) (replay j).trades → AreWithinLimits (replay j).trades
within_limits j h few low =
    let quantity : total_quantity (replay j).trades ≤ MAX_TRADED_QUANTITY = omega (arith, quantity_within j h, entries_few j h) in
    record { quantity = quantity; money = omega (arith, quantity, money_within (replay j).trades low) }

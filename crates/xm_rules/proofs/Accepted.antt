-- What an accepted command has passed: each of its checks, taken apart once for each kind of command.
use Rattle.std.proofs.Common.{◌≡◌, ℕ, ◌+◌, ◌<◌, ◌≤◌, Bool, true, false, ◌&&◌, ◌||◌, not, [], ◌∷◌, find, Option, Some, None, refl, arith}
use Rattle.std.proofs.lemmas.Bool.Decides.{nat_tests}
use Rattle.xm_rules.proofs.Checks.{first_failing-front, last_passes, passes}
use Rattle.xm_rules.specs.Commands.{has_prices_in_range, is_bad_combination, is_book_or_cancel, is_for_trading, is_in_range, is_over, member_of, order_kind, trigger_of}
use Rattle.xm_rules.specs.Crossing.{would_execute}
use Rattle.xm_rules.specs.Orders.{is_named}
use Rattle.xm_rules.specs.Refusals.{Check, first_failing, entries_more, has_order, is_trigger_reached, has_stop, is_allowed, is_ended, is_full, is_given_in_range, is_limit_for_market, is_not_changeable, is_unknown_member, is_unknown_order, own_checks, refusal_of}
use Rattle.xm_rules.specs.Settling.{is_continuous}
use Rattle.xm_rules.specs.State.{State}
use Rattle.xm_rules.specs.declared.commands.Command.{Command}
use Rattle.xm_rules.specs.declared.commands.Command.TheVariants.{Enter, Change, Cancel, CancelAll, StartOpening, StartIntraday, StartClosing, Uncross, EndDay}
use Rattle.xm_rules.specs.declared.commands.Condition.{Condition}
use Rattle.xm_rules.specs.declared.commands.Kind.{Kind}
use Rattle.xm_rules.specs.declared.orders.Restriction.{Restriction}
use Rattle.xm_rules.specs.declared.orders.Side.{Side}
use Rattle.xm_rules.specs.declared.orders.Validity.{Validity}
use Rattle.xm_rules.specs.declared.replies.Refusal.TheVariants.{UnknownMember, DayEnded, BadQuantity, BadPrice, BadValidity, BadCombination, WrongPhase, DuplicateReference, UnknownOrder, NotChangeable, TriggerReached, JournalFull, WouldExecute}
use Rattle.xm_rules.specs.declared.settings.TheConstants.{PHASE_COMMANDS_MORE}

not_false : (b : Bool) → not b ≡ false → b ≡ true
not_false true h = refl
not_false false h = cc

neither : (a b : Bool) → (a || b) ≡ false → (a ≡ false) × (b ≡ false)
neither true b h = cc
neither false b h = (refl, h)

-- the checks that every command has
pub record Passes (s : State) (c : Command) : Type 0 where
  pub known : is_unknown_member s (member_of c) ≡ false
  pub goes_on : is_ended s.phase ≡ false
  pub own : first_failing (own_checks s c) ≡ None
  pub fits : is_full s (member_of c) ≡ false

pub accepted : (s : State) (c : Command) → refusal_of s c ≡ None → Passes s c
unfolding refusal_of
accepted s c h =
    let known = passes (is_unknown_member s (member_of c)) UnknownMember _ h in
    let goes_on = passes (is_ended s.phase) DayEnded _ known.1 in
    let full : Check = record { fails = is_full s (member_of c); refusal = JournalFull } in
    record { known = known.0; goes_on = goes_on.0; own = first_failing-front (own_checks s c) (full ∷ []) goes_on.1; fits = last_passes (own_checks s c) full goes_on.1 }

room_within : (member : Option ℕ) → entries_more member ≤ PHASE_COMMANDS_MORE
room_within None = omega arith
room_within (Some member) = omega arith

-- a journal that takes a command has fewer entries than its limit and those that it takes of the phases
pub accepted-below : (s : State) (c : Command) → refusal_of s c ≡ None → s.accepted < s.settings.limit + PHASE_COMMANDS_MORE
accepted-below s c h =
    let fits = (accepted s c h).fits in
    let more = room_within (member_of c) in
    grind (arith, nat_tests)

-- an entry
pub record EntryPasses (s : State) (member reference : ℕ) (side : Side) (k : Kind) (units : ℕ) (v : Validity) (r : Restriction) (condition : Condition) : Type 0 where
  pub quantity : is_in_range units ≡ true
  pub prices : has_prices_in_range k ≡ true
  pub valid : is_over s.settings.today v ≡ false
  pub combined : is_bad_combination condition k r ≡ false
  pub in_phase : (is_for_trading condition && not (is_continuous s.phase)) ≡ false
  pub no_order : has_order s member reference ≡ false
  pub no_stop : has_stop s member reference ≡ false
  pub not_reached : is_trigger_reached s side (trigger_of k) ≡ false
  pub unmet : (is_book_or_cancel condition && would_execute s.orders side (order_kind k)) ≡ false

pub entry-accepted : (s : State) (member reference : ℕ) (side : Side) (k : Kind) (quantity : ℕ) (v : Validity) (r : Restriction) (condition : Condition)
    → refusal_of s (Enter member reference side k quantity v r condition) ≡ None → EntryPasses s member reference side k quantity v r condition
entry-accepted s member reference side k quantity v r condition h =
    let own = (accepted s (Enter member reference side k quantity v r condition) h).own in
    let counted = passes (not (is_in_range quantity)) BadQuantity _ own in
    let priced = passes (not (has_prices_in_range k)) BadPrice _ counted.1 in
    let valid = passes (is_over s.settings.today v) BadValidity _ priced.1 in
    let combined = passes (is_bad_combination condition k r) BadCombination _ valid.1 in
    let in_phase = passes (is_for_trading condition && not (is_continuous s.phase)) WrongPhase _ combined.1 in
    let fresh = passes (has_order s member reference || has_stop s member reference) DuplicateReference _ in_phase.1 in
    let reached = passes (is_trigger_reached s side (trigger_of k)) TriggerReached _ fresh.1 in
    let unmet = passes (is_book_or_cancel condition && would_execute s.orders side (order_kind k)) WouldExecute None reached.1 in
    let unused = neither (has_order s member reference) (has_stop s member reference) fresh.0 in
    record {
      quantity = not_false _ counted.0;
      prices = not_false _ priced.0;
      valid = valid.0;
      combined = combined.0;
      in_phase = in_phase.0;
      no_order = unused.0;
      no_stop = unused.1;
      not_reached = reached.0;
      unmet = unmet.0;
    }

-- a change
pub record ChangePasses (s : State) (member reference units : ℕ) (given : Option ℕ) : Type 0 where
  pub known : (has_order s member reference || has_stop s member reference) ≡ true
  pub no_stop : has_stop s member reference ≡ false
  pub has_limit : is_limit_for_market given (find (is_named member reference) s.orders) ≡ false
  pub quantity : is_in_range units ≡ true
  pub limit : is_given_in_range given ≡ true

pub change-accepted : (s : State) (member reference quantity : ℕ) (limit : Option ℕ) → refusal_of s (Change member reference quantity limit) ≡ None
    → ChangePasses s member reference quantity limit
change-accepted s member reference quantity limit h =
    let own = (accepted s (Change member reference quantity limit) h).own in
    let known = passes (is_unknown_order s member reference) UnknownOrder _ own in
    let changeable = passes (is_not_changeable s member reference limit) NotChangeable _ known.1 in
    let counted = passes (not (is_in_range quantity)) BadQuantity _ changeable.1 in
    let priced = passes (not (is_given_in_range limit)) BadPrice _ counted.1 in
    let changes = neither (has_stop s member reference) (is_limit_for_market limit (find (is_named member reference) s.orders)) changeable.0 in
    record { known = not_false _ known.0; no_stop = changes.0; has_limit = changes.1; quantity = not_false _ counted.0; limit = not_false _ priced.0 }

-- a cancellation
pub cancel-accepted : (s : State) (member reference : ℕ) → refusal_of s (Cancel member reference) ≡ None → (has_order s member reference || has_stop s member reference) ≡ true
cancel-accepted s member reference h = not_false _ (passes (is_unknown_order s member reference) UnknownOrder None (accepted s (Cancel member reference) h).own).0

-- a command of the phases
pub phase-accepted : (s : State) (c : Command) → member_of c ≡ None → refusal_of s c ≡ None → is_allowed s.phase c ≡ true
phase-accepted s (Enter member reference side k quantity v r condition) e h = cc
phase-accepted s (Change member reference quantity limit) e h = cc
phase-accepted s (Cancel member reference) e h = cc
phase-accepted s (CancelAll member) e h = cc
phase-accepted s StartOpening e h = not_false _ (passes (not (is_allowed s.phase StartOpening)) WrongPhase None (accepted s StartOpening h).own).0
phase-accepted s StartIntraday e h = not_false _ (passes (not (is_allowed s.phase StartIntraday)) WrongPhase None (accepted s StartIntraday h).own).0
phase-accepted s StartClosing e h = not_false _ (passes (not (is_allowed s.phase StartClosing)) WrongPhase None (accepted s StartClosing h).own).0
phase-accepted s Uncross e h = not_false _ (passes (not (is_allowed s.phase Uncross)) WrongPhase None (accepted s Uncross h).own).0
phase-accepted s EndDay e h = not_false _ (passes (not (is_allowed s.phase EndDay)) WrongPhase None (accepted s EndDay h).own).0

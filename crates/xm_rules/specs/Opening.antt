-- What a day opens with: which entries of earlier days a security takes, and the state before the day.
use Rattle.std.specs.Prelude.{ℕ, ◌+◌, Bool, true, false, ◌&&◌, nat_le, nat_lt, [], length, filter}
use Rattle.std.specs.List.{list_all}
use Rattle.xm_rules.specs.Commands.{is_in_range}
use Rattle.xm_rules.specs.Entries.{Entries, are_distinct, names}
use Rattle.xm_rules.specs.Orders.{limit_of}
use Rattle.xm_rules.specs.Refusals.{is_given_in_range}
use Rattle.xm_rules.specs.Settling.{order_of_stop, settle}
use Rattle.xm_rules.specs.State.{State}
use Rattle.xm_rules.specs.declared.carried.TheConstants.{MAX_CARRIED}
use Rattle.xm_rules.specs.declared.orders.Order.{Order}
use Rattle.xm_rules.specs.declared.orders.Stop.{Stop}
use Rattle.xm_rules.specs.declared.orders.Validity.{Validity}
use Rattle.xm_rules.specs.declared.orders.Validity.TheVariants.{Day, TillDate, TillCancelled}
use Rattle.xm_rules.specs.declared.phases.Phase.TheVariants.{PreTrading}
use Rattle.xm_rules.specs.declared.settings.DeskSettings.{DeskSettings}

-- valid beyond the day on which it was entered
abbrev pub is_lasting : Validity → Bool
is_lasting Day = false
is_lasting (TillDate date) = true
is_lasting TillCancelled = true

-- still valid today, where it was entered on an earlier day
abbrev pub is_still_valid : ℕ → Validity → Bool
is_still_valid today Day = false
is_still_valid today (TillDate date) = nat_le today date
is_still_valid today TillCancelled = true

-- an order that earlier days may have left: of a known member, of units and a limit in range, and valid beyond the day of its entry
abbrev pub is_carriable : ℕ → Order → Bool
is_carriable members o = nat_lt o.member members && is_in_range o.rest && is_given_in_range (limit_of o.kind) && is_lasting o.validity

-- a stop likewise: its trigger is in range, and the order that it becomes could have been left
abbrev pub is_carriable_stop : ℕ → Stop → Bool
is_carriable_stop members stop = is_in_range stop.trigger && is_carriable members (order_of_stop stop)

-- the entries that a security of so many members takes: no more than 100,000, each of which may have been left, and no two of one
-- name
abbrev pub can_be_left : ℕ → Entries → Bool
can_be_left members entries =
    nat_le (length entries.orders + length entries.stops) MAX_CARRIED
    && list_all (is_carriable members) entries.orders
    && list_all (is_carriable_stop members) entries.stops
    && are_distinct (names entries)

abbrev pub are_carriable : DeskSettings → Bool
are_carriable settings = can_be_left settings.members settings.carried

-- the entries that are still valid, in their order, before the day
abbrev pub carried_over : DeskSettings → State
carried_over settings =
    record {
      settings = settings;
      accepted = 0;
      phase = PreTrading;
      orders = filter (λ (o : Order). is_still_valid settings.today o.validity) settings.carried.orders;
      stops = filter (λ (stop : Stop). is_still_valid settings.today stop.validity) settings.carried.stops;
      trades = [];
      sweeps = 0;
    }

-- the state before the day: the stops among them that the reference has reached come in
unfoldable pub opening : DeskSettings → State
opening settings = settle (carried_over settings) []

-- What an order relies on that comes in.
use Rattle.std.specs.Prelude.{◌≡◌, ◌+◌, ◌<◌, false, IsTrue}
use Rattle.xm_book.specs.Places.{place_of}
use Rattle.xm_desk.specs.Settled.{Unsettled, came}
use Rattle.xm_desk.specs.declared.unsettled.Ready.TheVariants.{ForOrder}
use Rattle.xm_rules.specs.Commands.{is_in_range}
use Rattle.xm_rules.specs.Refusals.{has_order}
use Rattle.xm_rules.specs.declared.orders.Order.{Order}
use Rattle.xm_rules.specs.declared.settings.TheConstants.{PHASE_COMMANDS_MORE}

-- its place is kept, its name is new, it has units, and the command is not counted yet
pub record CanJoin (u : Unsettled) (o : Order) : Type 0 where
  pub ready : u.ready ≡ ForOrder (place_of o)
  pub name : has_order u.state o.member o.reference ≡ false
  pub rest : IsTrue (is_in_range o.rest)
  pub accepted : u.state.accepted < u.state.settings.limit + PHASE_COMMANDS_MORE

-- and there is a number for its sweep
pub record CanComeIn (u : Unsettled) (o : Order) : Type 0 where
  pub joins : CanJoin u o
  pub sweeps : u.state.sweeps < came u.state.settings (u.state.settings.limit + PHASE_COMMANDS_MORE)

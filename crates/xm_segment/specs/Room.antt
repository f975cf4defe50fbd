-- The room that gathering has for the desks that are still to come.
use Rattle.std.specs.Prelude.{ℕ, ◌*◌, ◌≤◌, vec_len}
use Rattle.std.specs.Vec.{vec_capacity}
use Rattle.xm_rules.specs.declared.totals.TheConstants.{MAX_TRADED_MONEY, MAX_TRADED_QUANTITY}
use Rattle.xm_segment.specs.declared.gathered.Gathered.{Gathered}
use Rattle.xm_ticks.specs.declared.numbers.TheConstants.{MAX_TICK_SIZE}

-- so many lanes were gathered: there is room for those of eight, and what they traded is what so many can trade at most
pub record HasGathered (lanes : ℕ) (g : Gathered) : Type 0 where
  pub desks : vec_len g.desks ≤ lanes
  pub totals : vec_len g.totals ≤ lanes
  pub desks_room : 8 ≤ vec_capacity g.desks
  pub totals_room : 8 ≤ vec_capacity g.totals
  pub quantity_within : g.quantity ≤ lanes * MAX_TRADED_QUANTITY
  pub money_within : g.money ≤ lanes * MAX_TRADED_MONEY * MAX_TICK_SIZE

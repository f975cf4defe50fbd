-- What a caller sees of the held stops, and of the pending ones.
use Rattle.std.specs.Prelude.{ℕ, ◌-◌, Bool, ◌==◌, List, ◌++◌, length, filter, map, Option}
use Rattle.std.specs.List.{list_any}
use Rattle.xm_rules.specs.Orders.{is_stop_named}
use Rattle.xm_rules.specs.declared.orders.Stop.{Stop}

pub record HeldStops : Type 0 where
  -- the held stops in order of entry
  pub stops : List Stop
  -- the stop for which there is room
  pub ready : Option Stop

pub record PendingStops : Type 0 where
  -- the stops in the order in which they come in
  pub stops : List Stop
  -- those that have left since these were last forgotten, in the order in which they did
  pub gone : List Stop
  -- for how many more there is room
  pub room : ℕ

-- the pending stops once others stand behind them, in room that was there
abbrev pub joined_by : List Stop → PendingStops → PendingStops
joined_by stops p = record p { stops = p.stops ++ stops; room = p.room - length stops }

abbrev pub is_held : ℕ → ℕ → List Stop → Bool
is_held member reference stops = list_any (is_stop_named member reference) stops

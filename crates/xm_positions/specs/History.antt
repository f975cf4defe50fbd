-- The recorded trades, as a clause sees them: those before the last one, and then this.
use Rattle.std.specs.Prelude.{List, [], ◌∷◌, ◌++◌}
use Rattle.xm_positions.specs.declared.history.Last.{Last, Last-F, fold-Last}
use Rattle.xm_positions.specs.declared.history.Last.TheOpen.{Nothing, Recorded}
use Rattle.xm_rules.specs.declared.orders.Trade.{Trade}

abbrev pub with_last : Last-F (List Trade) → List Trade
with_last Nothing = []
with_last (Recorded trade before) = before.value ++ trade.value ∷ []

unfoldable pub recorded : Last → List Trade
recorded last = fold-Last (List Trade) with_last last

-- The moment of a trade: what the trades before its sweep, or before its price determination, gave.
use Rattle.std.specs.Prelude.{ℕ, nat_lt, List, filter}
use Rattle.xm_rules.specs.State.{Ranges, State, ranges}
use Rattle.xm_rules.specs.declared.orders.Trade.{Trade}

-- the trades with a smaller number of a sweep or price determination
abbrev pub earlier : ℕ → List Trade → List Trade
earlier number trades = filter (λ (t : Trade). nat_lt t.sweep number) trades

-- the ranges around the last prices of the trades before those of its number
abbrev pub ranges_at : State → Trade → Ranges
ranges_at s t = ranges (record s { trades = earlier t.sweep s.trades })

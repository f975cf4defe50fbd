use Rattle.std.proofs.Common.{◌≡◌, ◌++◌, take}
use Rattle.xm_positions.proofs.positions.Positions.record_all.Given as goal

abbrev pub invariant-loop-trade : goal.invariant-loop-trade
invariant-loop-trade g l = l.self ≡ record l.initial.self { trades = l.initial.self.trades ++ take l.trade-index l.trades }

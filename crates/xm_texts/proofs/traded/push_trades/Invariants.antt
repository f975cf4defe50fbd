use Rattle.std.proofs.Common.{◌≡◌, ◌++◌, take}
use Rattle.std.specs.List.{flat_map}
use Rattle.xm_texts.specs.Statement.{trade_line}
use Rattle.xm_texts.proofs.traded.push_trades.Given as goal

abbrev pub invariant-loop-trade : goal.invariant-loop-trade
invariant-loop-trade g l = l.text.items ≡ l.initial.text.items ++ flat_map (trade_line l.names l.tick) (take l.trade-index l.trades)

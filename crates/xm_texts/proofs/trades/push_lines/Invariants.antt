use Rattle.std.proofs.Common.{◌≡◌, ◌++◌, take}
use Rattle.std.specs.List.{flat_map}
use Rattle.xm_texts.specs.RowAnswers.{record_line}
use Rattle.xm_texts.specs.RowTrades.{trade_fields}
use Rattle.xm_rules.specs.declared.orders.Trade.{Trade}
use Rattle.xm_texts.proofs.trades.push_lines.Given as goal

abbrev pub invariant-loop-trade : goal.invariant-loop-trade
invariant-loop-trade g l = l.text.items ≡ l.initial.text.items ++ flat_map (λ (t : Trade). record_line l.row l.own (trade_fields l.names l.row l.tick t)) (take l.trade-index l.trades)

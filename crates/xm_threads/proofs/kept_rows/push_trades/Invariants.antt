use Rattle.std.proofs.Common.{◌≡◌, ◌≤◌, ◌++◌, length, map, take}
use Rattle.xm_texts.specs.RowTrades.{trade_fields}
use Rattle.xm_rules.specs.Step.{replay}
use Rattle.xm_threads.proofs.kept_rows.push_trades.Given as goal

abbrev pub invariant-loop-trade : goal.invariant-loop-trade
invariant-loop-trade l = record {
  kept : l.lines ≡ l.initial.lines ++ map (trade_fields l.names l.row (replay l.desk).settings.tick) (take l.trade-index l.trades);
  more : length l.initial.lines ≤ length l.lines;
}

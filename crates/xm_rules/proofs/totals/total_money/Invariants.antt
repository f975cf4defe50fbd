use Rattle.std.proofs.Common.{◌≡◌, take}
use Rattle.xm_rules.specs.Sums.{total_money}
use Rattle.xm_rules.proofs.totals.total_money.Given as goal

abbrev pub invariant-loop-trade : goal.invariant-loop-trade
invariant-loop-trade l = l.total ≡ total_money (take l.trade-index l.trades)

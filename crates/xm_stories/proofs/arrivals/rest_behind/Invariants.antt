use Rattle.std.proofs.Common.{◌≡◌, ◌-◌, take}
use Rattle.xm_rules.specs.Sums.{total_quantity}
use Rattle.xm_stories.proofs.arrivals.rest_behind.Given as goal

abbrev pub invariant-loop-trade : goal.invariant-loop-trade
invariant-loop-trade l = l.rest ≡ l.units - total_quantity (take l.trade-index l.trades)

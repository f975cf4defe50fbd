use Rattle.std.proofs.Common.{◌≡◌, take}
use Rattle.xm_reasons.specs.RowRules.{group_prices}
use Rattle.xm_rules.specs.Sides.{best}
use Rattle.xm_reasons.proofs.rules.best_price.Given as goal

abbrev pub invariant-loop-row : goal.invariant-loop-row
invariant-loop-row l = l.best ≡ best l.side (group_prices l.leader l.group (take l.row-index l.rows))

use Rattle.xm_rules.proofs.Moments.{inside_of_kind, inside_replay}
use Rattle.xm_rules.specs.declared.orders.TradeKind.TheVariants as made
use Rattle.xm_rules.proofs.laws.journals_trade_inside_both_ranges.Goals as goal

pub returns-clause-inside : goal.returns-clause-inside
returns-clause-inside c = λ j. inside_of_kind j made.Continuous

pub returns-clause-before : goal.returns-clause-before
returns-clause-before c = λ j. (inside_replay j).1

use Rattle.xm_rules.specs.Step.{come_under}
use Rattle.xm_rules.proofs.CallTrades.{each_new_trade, new_trades_follow}
use Rattle.xm_rules.proofs.ComingIn.{sweep_adds}
use Rattle.xm_rules.proofs.laws.continuous_trades_are_inside_both_ranges.Goals as goal

pub returns-clause-appended : goal.returns-clause-appended
returns-clause-appended c = λ condition s o. new_trades_follow _ s (come_under condition s o) (sweep_adds _ condition s o (λ t h. h))

pub returns-clause-inside : goal.returns-clause-inside
returns-clause-inside c = λ condition s o. each_new_trade _ s (come_under condition s o) (sweep_adds _ condition s o (λ t h. h.inside))

pub returns-clause-kind : goal.returns-clause-kind
returns-clause-kind c = λ condition s o. each_new_trade _ s (come_under condition s o) (sweep_adds _ condition s o (λ t h. h.kind))

pub returns-clause-number : goal.returns-clause-number
returns-clause-number c = λ condition s o. each_new_trade _ s (come_under condition s o) (sweep_adds _ condition s o (λ t h. h.sweep))

use Rattle.std.proofs.Common.{arith}
use Rattle.xm_rules.proofs.Sweeps.{filled_within, traded_is_filled, list_loses_filled}
use Rattle.xm_rules.proofs.laws.fills_sum_to_the_quantity_less_its_rest.Goals as goal

pub returns-clause-within : goal.returns-clause-within
returns-clause-within c = filled_within

pub returns-clause-rest : goal.returns-clause-rest
returns-clause-rest c = λ w. omega (arith, filled_within w)

pub returns-clause-trades : goal.returns-clause-trades
returns-clause-trades c = traded_is_filled

pub returns-clause-resting : goal.returns-clause-resting
returns-clause-resting c = list_loses_filled

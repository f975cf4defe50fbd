use Rattle.xm_rules.proofs.DayLimits.{quantity_within}
use Rattle.xm_rules.proofs.PricesInRange.{prices_in_range, within_day}
use Rattle.xm_rules.proofs.laws.lawful_journals_stay_within_the_limits_of_a_day.Goals as goal

pub returns-clause-quantity : goal.returns-clause-quantity
returns-clause-quantity c = quantity_within

pub returns-clause-prices : goal.returns-clause-prices
returns-clause-prices c = prices_in_range

pub returns-clause-limits : goal.returns-clause-limits
returns-clause-limits c = within_day

use Rattle.xm_rules.specs.Step.{replay}
use Rattle.xm_rules.proofs.KnownMembers.{known}
use Rattle.xm_rules.proofs.MemberSums.{bought-all, bought_is_sold, paid-all, paid_is_received}
use Rattle.xm_rules.proofs.laws.every_purchase_of_a_lawful_journal_is_a_sale.Goals as goal

pub returns-clause-quantity : goal.returns-clause-quantity
returns-clause-quantity c = λ j lawful. bought_is_sold j.settings.members (replay j).trades (known j lawful).trades

pub returns-clause-money : goal.returns-clause-money
returns-clause-money c = λ j lawful. paid_is_received j.settings.members (replay j).trades (known j lawful).trades

pub returns-clause-total_quantity : goal.returns-clause-total_quantity
returns-clause-total_quantity c = λ j lawful. bought-all j.settings.members (replay j).trades (known j lawful).trades

pub returns-clause-total_money : goal.returns-clause-total_money
returns-clause-total_money c = λ j lawful. paid-all j.settings.members (replay j).trades (known j lawful).trades

use Rattle.xm_rules.proofs.MemberSums.{bought-all, bought_is_sold, paid-all, paid_is_received}
use Rattle.xm_rules.proofs.laws.every_purchase_is_a_sale.Goals as goal

pub returns-clause-quantity : goal.returns-clause-quantity
returns-clause-quantity c = bought_is_sold

pub returns-clause-money : goal.returns-clause-money
returns-clause-money c = paid_is_received

pub returns-clause-total_quantity : goal.returns-clause-total_quantity
returns-clause-total_quantity c = bought-all

pub returns-clause-total_money : goal.returns-clause-total_money
returns-clause-total_money c = paid-all

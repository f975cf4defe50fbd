use Rattle.std.proofs.Common.{◌+◌, sym, ◌∙◌}
use Rattle.xm_positions.proofs.Members.{may_record, money_more, purchase_fits, purchase_is, quantity_more, recorded_sums, sale_fits, sale_is}
use Rattle.xm_positions.proofs.positions.Positions.record.Goals as goal

pub with_purchase-requires-clause-quantity : goal.with_purchase-requires-clause-quantity
with_purchase-requires-clause-quantity g c =
    let may = may_record c.args.self.now c.self.inside.members.items c.self.inside.history c.args.trade.now c.self.view_is c.self.invariant.sums c.requires.members c.requires.limits in
    (purchase_fits c.self.inside.members.items c.self.inside.history c.args.trade.now may c.index.result.now c.index.ensures c.from-quantity.result c.money_of-money.result c.from-quantity.ensures c.money_of-money.ensures).0

pub with_purchase-requires-clause-money : goal.with_purchase-requires-clause-money
with_purchase-requires-clause-money g c =
    let may = may_record c.args.self.now c.self.inside.members.items c.self.inside.history c.args.trade.now c.self.view_is c.self.invariant.sums c.requires.members c.requires.limits in
    (purchase_fits c.self.inside.members.items c.self.inside.history c.args.trade.now may c.index.result.now c.index.ensures c.from-quantity.result c.money_of-money.result c.from-quantity.ensures c.money_of-money.ensures).1

pub with_sale-requires-clause-quantity : goal.with_sale-requires-clause-quantity
with_sale-requires-clause-quantity g c =
    let may = may_record c.args.self.now c.self.inside.members.items c.self.inside.history c.args.trade.now c.self.view_is c.self.invariant.sums c.requires.members c.requires.limits in
    let buys = purchase_is c.index.result.now c.with_purchase.result c.args.trade.now c.from-quantity.result c.money_of-money.result c.with_purchase.ensures c.from-quantity.ensures c.money_of-money.ensures in
    (sale_fits c.self.inside.members.items c.self.inside.history c.args.trade.now may c.index.result.now c.index.ensures c.with_purchase.result buys c.index-2.result.now c.index-2.ensures c.from-quantity.result c.money_of-money.result c.from-quantity.ensures c.money_of-money.ensures).0

pub with_sale-requires-clause-money : goal.with_sale-requires-clause-money
with_sale-requires-clause-money g c =
    let may = may_record c.args.self.now c.self.inside.members.items c.self.inside.history c.args.trade.now c.self.view_is c.self.invariant.sums c.requires.members c.requires.limits in
    let buys = purchase_is c.index.result.now c.with_purchase.result c.args.trade.now c.from-quantity.result c.money_of-money.result c.with_purchase.ensures c.from-quantity.ensures c.money_of-money.ensures in
    (sale_fits c.self.inside.members.items c.self.inside.history c.args.trade.now may c.index.result.now c.index.ensures c.with_purchase.result buys c.index-2.result.now c.index-2.ensures c.from-quantity.result c.money_of-money.result c.from-quantity.ensures c.money_of-money.ensures).1

pub invariant_of-self : goal.invariant_of-self
invariant_of-self g c =
    let history = c.self.inside.history in
    let trade = c.args.trade.now in
    let may = may_record c.args.self.now c.self.inside.members.items history trade c.self.view_is c.self.invariant.sums c.requires.members c.requires.limits in
    let buys = purchase_is c.index.result.now c.with_purchase.result c.args.trade.now c.from-quantity.result c.money_of-money.result c.with_purchase.ensures c.from-quantity.ensures c.money_of-money.ensures in
    let sells = sale_is c.index-2.result.now c.with_sale.result c.args.trade.now c.from-quantity.result c.money_of-money.result c.with_sale.ensures c.from-quantity.ensures c.money_of-money.ensures in
    let sums = recorded_sums c.self.inside.members.items history trade may c.index.result.now c.index.ensures c.with_purchase.result buys c.index-2.result.now c.index-2.ensures c.with_sale.result sells in
    rw c.add.ensures (record {
      sums = sums;
      quantity = (λ i. c.self.invariant.quantity i + c.from-quantity.ensures i) ∙ sym (quantity_more history trade);
      money = (λ i. c.self.invariant.money i + c.money_of-money.ensures i) ∙ sym (money_more history trade);
      limits = may.limits;
    })

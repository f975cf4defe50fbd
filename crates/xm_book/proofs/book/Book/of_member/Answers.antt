use Rattle.std.proofs.Common.{ap, filter, map, ◌==◌, ◌∙◌}
use Rattle.std.proofs.lemmas.Result.{IfOk-from_err, IfOk-weaker}
use Rattle.xm_rules.specs.declared.orders.Order.{Order}
use Rattle.xm_slots.specs.Naming.{AreNamesOf}
use Rattle.xm_slots.proofs.OfOwner.{item_of, items-owned}
use Rattle.xm_book.specs.Listing.{order_owner, order_reference}
use Rattle.xm_book.proofs.book.Book.of_member.Goals as goal

pub returns-in_err-entries : goal.returns-in_err-entries
returns-in_err-entries g c = IfOk-from_err c.from_residual-in_err-entries.result _ c.from_residual-in_err-entries.ensures.0

pub returns : goal.returns
returns g c =
    let q = c.self.inside.queues in
    let all = c.in_ok-names.ensures in
    let of : AreNamesOf order_owner order_reference c.args.member q.orders c.deref.result.now =
    rw c.deref.ensures.value (record { own = c.self.invariant.sound.names; keyed = λ r. all.keyed r ∙ c.self.invariant.named c.args.member r; once = all.once }) in
    IfOk-weaker c.items_of.result _ _
    (λ items is.
    is ∙ ap (map item_of) (c.in_ok-entries.ensures c.args.member of) ∙ items-owned order_owner order_reference c.args.member q.orders
    ∙ ap (λ l. filter (λ (x : Order). x.member == c.args.member) l.orders) c.self.view_is) c.items_of.ensures

use Rattle.std.proofs.Common.{ap, filter, map, ◌==◌, ◌∙◌}
use Rattle.std.proofs.lemmas.Result.{IfOk-from_err, IfOk-weaker}
use Rattle.xm_rules.specs.declared.orders.Stop.{Stop}
use Rattle.xm_slots.specs.Naming.{AreNamesOf}
use Rattle.xm_slots.proofs.OfOwner.{item_of, items-owned}
use Rattle.xm_stops.specs.Listing.{stop_owner, stop_reference}
use Rattle.xm_stops.proofs.stops.Stops.of_member.Goals as goal

pub returns-in_err-entries : goal.returns-in_err-entries
returns-in_err-entries g c = IfOk-from_err c.from_residual-in_err-entries.result _ c.from_residual-in_err-entries.ensures.0

pub returns : goal.returns
returns g c =
    let q = c.self.inside.queues in
    let all = c.in_ok-names.ensures in
    let of : AreNamesOf stop_owner stop_reference c.args.member q.stops c.deref.result.now =
    rw c.deref.ensures.value (record { own = c.self.invariant.own; keyed = λ r. all.keyed r ∙ c.self.invariant.named c.args.member r; once = all.once }) in
    IfOk-weaker c.items_of.result _ _
    (λ items is.
    is ∙ ap (map item_of) (c.in_ok-entries.ensures c.args.member of) ∙ items-owned stop_owner stop_reference c.args.member q.stops
    ∙ ap (λ l. filter (λ (x : Stop). x.member == c.args.member) l.stops) c.self.view_is) c.items_of.ensures

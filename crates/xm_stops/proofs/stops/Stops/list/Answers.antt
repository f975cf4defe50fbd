use Rattle.std.proofs.Common.{ap, map, ◌∙◌}
use Rattle.std.proofs.lemmas.Result.{IfOk-from_err, IfOk-weaker}
use Rattle.xm_slots.proofs.OfOwner.{item_of, items-in}
use Rattle.xm_stops.proofs.stops.Stops.list.Goals as goal

pub returns : goal.returns
returns g c =
    IfOk-weaker c.items_of.result _ _ (λ items is. is ∙ ap (map item_of) c.in_ok-entries.ensures ∙ items-in c.self.inside.queues.stops ∙ ap (λ l. l.stops) c.self.view_is) c.items_of.ensures

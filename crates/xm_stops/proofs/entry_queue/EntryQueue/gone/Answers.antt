use Rattle.std.proofs.Common.{◌≡◌, ap, ◌∙◌, map, rules, take}
use Rattle.std.proofs.lemmas.Iterator.{YieldsList-from_map, YieldsList-from_slice, items_from_collect}
use Rattle.std.proofs.lemmas.Result.{IfOk-at_ok}
use Rattle.xm_stops.specs.Pending.{stop_of_entry}
use Rattle.xm_stops.proofs.entry_queue.EntryQueue.gone.Goals as goal

pub returns : goal.returns
returns g c =
    let entries = take c.self.inside.head c.self.inside.entries.items in
    let items : c.in_ok-stops.stops.items ≡ map stop_of_entry entries =
    IfOk-at_ok _ c.in_ok-stops.was (items_from_collect _ c.collect.ensures.ran (YieldsList-from_map _ stop_of_entry (YieldsList-from_slice entries (cc)) c.map.ensures.closure (λ x r q k. search rules))) in
    items ∙ ap (λ q. map stop_of_entry q.gone) c.self.view_is

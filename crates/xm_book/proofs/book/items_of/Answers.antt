use Rattle.std.proofs.Common.{rules}
use Rattle.std.proofs.lemmas.Iterator.{YieldsList-from_map, YieldsList-from_slice, items_from_collect}
use Rattle.std.proofs.lemmas.Result.{IfOk-at_ok}
use Rattle.xm_slots.proofs.OfOwner.{item_of}
use Rattle.xm_book.proofs.book.items_of.Goals as goal

pub returns : goal.returns
returns g c =
    let entries = c.args.entries.now.items in
    IfOk-at_ok _ c.in_ok-orders.was (items_from_collect _ c.collect.ensures.ran (YieldsList-from_map _ item_of (YieldsList-from_slice entries (cc)) c.map.ensures.closure (λ x r q k. search rules)))

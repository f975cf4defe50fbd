use Rattle.std.proofs.Common.{ap, sym, ◌∙◌, ◌++◌, List, option_copied}
use Rattle.std.specs.Option.{option_to_list}
use Rattle.xm_slots.specs.declared.entry.Entry.{Entry}
use Rattle.xm_slots.proofs.Collecting.{found-more}
use Rattle.xm_slots.proofs.slots.Slots.entries.Goals as goal

pub loop-slot-preserved : goal.loop-slot-preserved
loop-slot-preserved g c =
    let found = option_copied c.get.result in
    c.in_ok-push_found.ensures ∙ ap (λ (es : List (Entry g.row.I.Denot)). es ++ option_to_list found) c.loop-slot.invariant
    ∙ sym (found-more (λ slot. slot) c.deref-slot-items.result.now c.loop-slot.slot-index c.slot-item.result found c.loop-slot-test.true (c.get.ensures ∙ c.slot-item.is))

use Rattle.std.proofs.Common.{ap, sym, ◌∙◌, ◌++◌, List, ℕ, get_or, option_copied}
use Rattle.std.specs.Option.{option_to_list}
use Rattle.xm_slots.specs.Slots.{get}
use Rattle.xm_slots.specs.declared.entry.Entry.{Entry}
use Rattle.xm_slots.proofs.Collecting.{found-more}
use Rattle.xm_slots.proofs.slots.Slots.entries_under.Goals as goal

pub loop-name-preserved : goal.loop-name-preserved
loop-name-preserved g c =
    let found = option_copied c.get.result in
    c.in_ok-push_found.ensures ∙ ap (λ (es : List (Entry g.row.I.Denot)). es ++ option_to_list found) c.loop-name.invariant
    ∙ sym (found-more (λ (name : ℕ × ℕ). get c.args.self.now name.1) c.args.names.now c.loop-name.name-index (0, 0) found c.loop-name-test.true c.get.ensures)

use Rattle.std.proofs.Common.{◌≡◌, take}
use Rattle.std.specs.List.{filter_map}
use Rattle.xm_slots.proofs.slots.Slots.entries.Given as goal

abbrev pub invariant-loop-slot : goal.invariant-loop-slot
invariant-loop-slot g l = l.entries.items ≡ filter_map (λ slot. slot) (take l.slot-index l.slot-items)

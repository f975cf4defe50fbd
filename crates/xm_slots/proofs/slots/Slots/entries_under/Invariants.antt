use Rattle.std.proofs.Common.{◌≡◌, ℕ, take}
use Rattle.xm_slots.specs.Slots.{entries_under}
use Rattle.xm_slots.proofs.slots.Slots.entries_under.Given as goal

abbrev pub invariant-loop-name : goal.invariant-loop-name
invariant-loop-name g l = l.entries.items ≡ entries_under (take l.name-index l.names) l.self

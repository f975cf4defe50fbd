use Rattle.std.proofs.Common.{◌≡◌, map, take}
use Rattle.xm_explanations.specs.declared.notes.Note.{Note}
use Rattle.xm_explanations.proofs.notes.notes_of.Given as goal

abbrev pub invariant-loop-index : goal.invariant-loop-index
invariant-loop-index l = map (λ (note : Note). note.rows) l.notes.items ≡ take l.index l.refused

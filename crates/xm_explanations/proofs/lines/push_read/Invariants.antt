use Rattle.std.proofs.Common.{◌≡◌, ◌++◌, take}
use Rattle.std.specs.List.{flat_map}
use Rattle.std.specs.Prelude.{string_bytes}
use Rattle.xm_explanations.specs.Lines.{mistake_line}
use Rattle.xm_mistakes.specs.declared.mistake.Mistake.{Mistake}
use Rattle.xm_explanations.proofs.lines.push_read.Given as goal

abbrev pub invariant-loop-mistake : goal.invariant-loop-mistake
invariant-loop-mistake l = l.text.items ≡ l.initial.text.items ++ flat_map (λ (m : Mistake). mistake_line l.path (string_bytes m.words)) (take l.mistake-index l.mistakes)

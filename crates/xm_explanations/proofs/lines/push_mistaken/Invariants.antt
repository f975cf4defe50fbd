use Rattle.std.proofs.Common.{◌≡◌, ◌++◌, take}
use Rattle.xm_explanations.specs.Lines.{mistaken_lines}
use Rattle.xm_explanations.proofs.lines.push_mistaken.Given as goal

abbrev pub invariant-loop-file : goal.invariant-loop-file
invariant-loop-file l = l.text.items ≡ l.initial.text.items ++ mistaken_lines (take l.file-index l.told)

use Rattle.std.proofs.Common.{◌≡◌, ◌++◌, take}
use Rattle.std.specs.List.{flat_map}
use Rattle.xm_reason_texts.specs.Blocks.{candidate_line}
use Rattle.xm_reason_texts.proofs.blocks.push_candidates.Given as goal

abbrev pub invariant-loop-candidate : goal.invariant-loop-candidate
invariant-loop-candidate g l = l.text.items ≡ l.initial.text.items ++ flat_map (candidate_line l.tick) (take l.candidate-index l.candidates)

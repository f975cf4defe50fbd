use Rattle.std.proofs.Common.{◌≡◌, ◌++◌, take}
use Rattle.std.specs.List.{flat_map}
use Rattle.xm_reason_texts.specs.Rows.{candidate_row}
use Rattle.xm_reason_texts.proofs.rows.push_candidates.Given as goal

abbrev pub invariant-loop-candidate : goal.invariant-loop-candidate
invariant-loop-candidate g l = l.text.items ≡ l.initial.text.items ++ flat_map (candidate_row l.start l.tick) (take l.candidate-index l.candidates)

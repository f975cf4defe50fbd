use Rattle.std.proofs.Common.{◌≡◌, ◌++◌, slice_range}
use Rattle.std.specs.List.{flat_map}
use Rattle.xm_texts.specs.RowAnswers.{record_line}
use Rattle.xm_threads.proofs.row_texts.push_lines.Given as goal

abbrev pub invariant-loop-index : goal.invariant-loop-index
invariant-loop-index l = l.text.items ≡ l.initial.text.items ++ flat_map (record_line l.row l.own) (slice_range l.lines l.begin l.index)

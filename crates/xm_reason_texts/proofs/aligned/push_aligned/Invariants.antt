use Rattle.std.proofs.Common.{◌≡◌, ◌++◌}
use Rattle.std.specs.Prelude.{replicate}
use Rattle.xm_reason_texts.proofs.aligned.push_aligned.Given as goal

abbrev pub invariant-loop-blank : goal.invariant-loop-blank
invariant-loop-blank g l = l.text.items ≡ l.initial.text.items ++ replicate l._blank 32

use Rattle.std.proofs.Common.{◌≡◌, ◌++◌, take, map}
use Rattle.xm_rules.specs.Step.{replay}
use Rattle.xm_texts.specs.Statement.{securities_text}
use Rattle.xm_texts.proofs.statements.push_securities.Given as goal

abbrev pub invariant-loop-index : goal.invariant-loop-index
invariant-loop-index g l = l.text.items ≡ l.initial.text.items ++ securities_text l.names (map replay (take l.index l.desks))

use Rattle.xm_name_index.proofs.Placed.{IsTested}
use Rattle.xm_name_index.proofs.table.NameTable.retain.Given as goal

abbrev pub invariant-loop-index : goal.invariant-loop-index
invariant-loop-index g l = IsTested (goal.F-post g l.passes) l.initial.self l.self l.index

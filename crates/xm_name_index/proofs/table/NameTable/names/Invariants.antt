use Rattle.std.proofs.Common.{ℕ}
use Rattle.xm_name_index.proofs.Listed.{AreListed}
use Rattle.xm_name_index.proofs.table.NameTable.names.Given as goal

abbrev pub invariant-loop-index : goal.invariant-loop-index
invariant-loop-index g l = AreListed l.self l.index l.names.items

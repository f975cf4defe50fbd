use Rattle.std.proofs.Common.{◌≡◌, ℕ, ◌<◌, None}
use Rattle.xm_name_index.specs.Tables.{key_at}
use Rattle.xm_name_index.proofs.table.NameTable.occupied.Given as goal

abbrev pub invariant-loop-index : goal.invariant-loop-index
invariant-loop-index g l = (index r : ℕ) → index < l.index → key_at l.self index r ≡ None

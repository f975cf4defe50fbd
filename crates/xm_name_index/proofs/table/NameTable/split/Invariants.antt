use Rattle.std.proofs.Common.{◌≡◌, ◌*◌}
use Rattle.std.specs.Vec.{vec_capacity}
use Rattle.xm_name_index.proofs.Splitting.{AreParts}
use Rattle.xm_name_index.proofs.table.NameTable.split.Given as goal

abbrev pub invariant-loop-index : goal.invariant-loop-index
invariant-loop-index g l = record {
  parts : AreParts (record { buckets = l.self-inside.buckets.items; seed = l.self-inside.seed.value }) l.buckets.items l.index;
  room : vec_capacity l.buckets ≡ 2 * l.len;
}

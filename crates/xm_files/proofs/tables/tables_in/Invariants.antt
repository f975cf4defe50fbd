use Rattle.std.proofs.Common.{drop, map}
use Rattle.toml.specs.Data.{as_table}
use Rattle.toml.specs.View.{items_view, table_view}
use Rattle.xm_files.proofs.Values.{SoFar}
use Rattle.xm_files.proofs.tables.tables_in.Given as goal

abbrev pub invariant-loop-value : goal.invariant-loop-value
invariant-loop-value l = SoFar as_table (items_view l.values.items) (map (λ t. table_view t.now) l.tables.items) (items_view (drop l.value-index l.values.items))

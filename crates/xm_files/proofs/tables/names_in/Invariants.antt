use Rattle.std.proofs.Common.{drop, map}
use Rattle.toml.specs.View.{items_view}
use Rattle.xm_files.proofs.Values.{SoFar}
use Rattle.xm_files.specs.Segment.{name_in}
use Rattle.xm_files.proofs.tables.names_in.Given as goal

abbrev pub invariant-loop-value : goal.invariant-loop-value
invariant-loop-value l = SoFar name_in (items_view l.values.items) (map (λ n. n.now) l.names.items) (items_view (drop l.value-index l.values.items))

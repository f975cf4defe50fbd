use Rattle.std.proofs.Common.{◌≡◌, [], drop, length, map}
use Rattle.toml.specs.View.{table_view}
use Rattle.xm_files.specs.Segment.{securities_after}
use Rattle.xm_files.proofs.segment.list_securities.Given as goal

abbrev pub invariant-loop-table : goal.invariant-loop-table
invariant-loop-table l = record {
  so_far : securities_after (record { names = []; settings = [] }) (map (λ t. table_view t.now) l.tables)
      ≡ securities_after (record { names = l.listing.names; settings = l.listing.settings.items }) (map (λ t. table_view t.now) (drop l.table-index l.tables));
  each : length l.listing.names ≡ length l.listing.settings.items;
}

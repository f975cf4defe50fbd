use Rattle.std.proofs.Common.{rules, ap, sym, ◌≡◌, ◌++◌, List, ℕ}
use Rattle.std.specs.List.{flat_map}
use Rattle.xm_name_index.specs.Buckets.{slot_name}
use Rattle.xm_name_index.specs.Tables.{TableView}
use Rattle.xm_name_index.proofs.Listed.{AreListed, all-listed, more-listed, none-listed}
use Rattle.xm_name_index.proofs.table.NameTable.names.Goals as goal

pub loop-index-init : goal.loop-index-init
loop-index-init g c =
    let t : TableView = record { buckets = c.self.inside.buckets.items; seed = c.self.inside.seed.value } in
    rw (← c.self.view_is, c.new-names.ensures.items) (none-listed t c.self.inside.first c.self.invariant)

pub loop-index-preserved : goal.loop-index-preserved
loop-index-preserved g c =
    let t : TableView = record { buckets = c.self.inside.buckets.items; seed = c.self.inside.seed.value } in
    let before = rw (← c.self.view_is) at c.loop-index.invariant in
    rw (← c.self.view_is, c.in_ok-list.ensures.listed)
    (more-listed t c.self.inside.first c.loop-index.index c.loop-index.names.items c.index.result.now c.self.invariant (search rules) (search rules) c.list.ensures.apart before)

pub returns : goal.returns
returns g c =
    let t : TableView = record { buckets = c.self.inside.buckets.items; seed = c.self.inside.seed.value } in
    let before = rw (← c.self.view_is) at c.loop-index.invariant in
    rw (← c.self.view_is) (all-listed t c.loop-index.index c.loop-index.names.items (search rules) before)

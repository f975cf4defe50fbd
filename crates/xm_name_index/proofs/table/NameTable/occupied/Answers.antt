use Rattle.std.proofs.Common.{rules}
use Rattle.xm_name_index.specs.Tables.{TableView}
use Rattle.xm_name_index.proofs.Placed.{none-at-all, none-yet, some-of}
use Rattle.xm_name_index.proofs.table.NameTable.occupied.Goals as goal

pub returns-in-Some-clause-some : goal.returns-in-Some-clause-some
returns-in-Some-clause-some g c =
    let t : TableView = record { buckets = c.self.inside.buckets.items; seed = c.self.inside.seed.value } in
    rw (← c.self.view_is) (some-of t c.self.inside.first c.loop-index.index c.in-Some.reference c.index.result.now c.self.invariant (search rules) (search rules) c.in-Some.ensures.some)

pub loop-index-preserved : goal.loop-index-preserved
loop-index-preserved g c =
    let t : TableView = record { buckets = c.self.inside.buckets.items; seed = c.self.inside.seed.value } in
    let before = rw (← c.self.view_is) at c.loop-index.invariant in
    rw (← c.self.view_is) (none-yet t c.loop-index.index c.index.result.now (search rules) (search rules) c.in-None.ensures.none before)

pub returns-clause-none : goal.returns-clause-none
returns-clause-none g c =
    let t : TableView = record { buckets = c.self.inside.buckets.items; seed = c.self.inside.seed.value } in
    let before = rw (← c.self.view_is) at c.loop-index.invariant in
    rw (← c.self.view_is) (none-at-all t c.loop-index.index (search rules) before)

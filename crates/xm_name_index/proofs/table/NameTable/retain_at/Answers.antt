use Rattle.std.proofs.Common.{rules, ◌<◌, length}
use Rattle.xm_name_index.specs.Tables.{TableView}
use Rattle.xm_name_index.proofs.Buckets.{IsByKey, leaves-weaker}
use Rattle.xm_name_index.proofs.Placed.{kept-in, kept-others, kept-there, placed-fewer, same-home}
use Rattle.xm_name_index.proofs.table.NameTable.retain_at.Goals as goal

pub invariant_of-self : goal.invariant_of-self
invariant_of-self g c =
    let t : TableView = record { buckets = c.self.inside.buckets.items; seed = c.self.inside.seed.value } in
    let A = goal.F-post g c.args.passes.now in
    let old = c.index.result.now in
    let within : c.args.index < length t.buckets = search rules in
    let leaves = leaves-weaker _ (IsByKey A) (λ s b call. search rules) old c.retained.result c.retained.ensures.leaves in
    placed-fewer A t c.args.index c.retained.result within (kept-in A t c.args.index old c.retained.result within c.index.ensures c.retained.ensures.apart leaves) c.self.inside.first c.self.invariant

pub returns-clause-there : goal.returns-clause-there
returns-clause-there g c r =
    let t : TableView = record { buckets = c.self.inside.buckets.items; seed = c.self.inside.seed.value } in
    let A = goal.F-post g c.args.passes.now in
    let old = c.index.result.now in
    let within : c.args.index < length t.buckets = search rules in
    let leaves = leaves-weaker _ (IsByKey A) (λ s b call. search rules) old c.retained.result c.retained.ensures.leaves in
    rw (← c.self.view_is)
    (kept-there A t c.args.index c.retained.result within (kept-in A t c.args.index old c.retained.result within c.index.ensures c.retained.ensures.apart leaves) r)

pub returns-clause-others : goal.returns-clause-others
returns-clause-others g c other r apart =
    let t : TableView = record { buckets = c.self.inside.buckets.items; seed = c.self.inside.seed.value } in
    let within : c.args.index < length t.buckets = search rules in
    rw (← c.self.view_is) (kept-others t c.args.index c.retained.result within other r apart)

pub returns-clause-homes : goal.returns-clause-homes
returns-clause-homes g c r =
    let t : TableView = record { buckets = c.self.inside.buckets.items; seed = c.self.inside.seed.value } in
    rw (← c.self.view_is) (same-home t c.args.index c.retained.result r)

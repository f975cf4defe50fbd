use Rattle.std.proofs.Common.{rules, ◌≡◌, ◌<◌, length, arith}
use Rattle.xm_name_index.specs.Tables.{TableView, home}
use Rattle.xm_name_index.proofs.Placed.{bucket-says, keys-with, placed-with}
use Rattle.xm_name_index.proofs.table.NameTable.put.Goals as goal

pub invariant_of-self-2 : goal.invariant_of-self-2
invariant_of-self-2 g c =
    let t : TableView = record { buckets = c.self.inside.buckets.items; seed = c.self.inside.seed.value } in
    let h = c.home-home.result in
    let within : h < length t.buckets = search rules in
    let at : home t c.args.reference ≡ h = search rules in
    let says = bucket-says t h c.args.reference c.index_mut.result.now c.put.new.self _ within c.index_mut.ensures.value (c.put.ensures.keys (search rules)) in
    placed-with t h c.put.new.self within c.args.reference _ at says c.self.inside.first c.min.result c.self.invariant (search rules) (λ before. absurd (omega arith))

pub returns-clause-keys : goal.returns-clause-keys
returns-clause-keys g c _ r =
    let t : TableView = record { buckets = c.self.inside.buckets.items; seed = c.self.inside.seed.value } in
    let h = c.home-home.result in
    let within : h < length t.buckets = search rules in
    let at : home t c.args.reference ≡ h = search rules in
    let says = bucket-says t h c.args.reference c.index_mut.result.now c.put.new.self _ within c.index_mut.ensures.value (c.put.ensures.keys (search rules)) in
    rw (← c.self.view_is) (keys-with t h c.put.new.self within c.args.reference _ at says r)

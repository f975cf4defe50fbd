use Rattle.std.proofs.Common.{rules, ◌≡◌, ◌∙◌, ℕ, ◌<◌, length, sym, ap}
use Rattle.xm_name_index.specs.Tables.{TableView, home, key_at}
use Rattle.xm_name_index.proofs.Placed.{bucket-says, key-there, keys-with, none-taken, past-end, placed-with}
use Rattle.xm_name_index.proofs.table.NameTable.take.Goals as goal

pub invariant_of-self : goal.invariant_of-self
invariant_of-self g c =
    let t : TableView = record { buckets = c.self.inside.buckets.items; seed = c.self.inside.seed.value } in
    let h = c.home-home.result in
    let within : h < length t.buckets = search rules in
    let at : home t c.args.reference ≡ h = search rules in
    let says = bucket-says t h c.args.reference c.index_mut.result.now c.take.new.self _ within c.index_mut.ensures.value c.take.ensures.keys in
    placed-with t h c.take.new.self within c.args.reference _ at says c.self.inside.first c.self.inside.first c.self.invariant (search rules) (λ before. search rules)

pub returns-then-home-len-clause-key : goal.returns-then-home-len-clause-key
returns-then-home-len-clause-key g c =
    let t : TableView = record { buckets = c.self.inside.buckets.items; seed = c.self.inside.seed.value } in
    let h = c.home-home.result in
    let within : h < length t.buckets = search rules in
    let at : home t c.args.reference ≡ h = search rules in
    rw (← c.self.view_is) (c.take.ensures.key ∙ key-there t h c.args.reference c.index_mut.result.now within c.index_mut.ensures.value ∙ ap (λ (i : ℕ). key_at t i c.args.reference) (sym at))

pub returns-then-home-len-clause-keys : goal.returns-then-home-len-clause-keys
returns-then-home-len-clause-keys g c r =
    let t : TableView = record { buckets = c.self.inside.buckets.items; seed = c.self.inside.seed.value } in
    let h = c.home-home.result in
    let within : h < length t.buckets = search rules in
    let at : home t c.args.reference ≡ h = search rules in
    let says = bucket-says t h c.args.reference c.index_mut.result.now c.take.new.self _ within c.index_mut.ensures.value c.take.ensures.keys in
    rw (← c.self.view_is) (keys-with t h c.take.new.self within c.args.reference _ at says r)

pub returns-else-home-len-clause-key : goal.returns-else-home-len-clause-key
returns-else-home-len-clause-key g c =
    let t : TableView = record { buckets = c.self.inside.buckets.items; seed = c.self.inside.seed.value } in
    let at : home t c.args.reference ≡ c.home-home.result = search rules in
    rw (← c.self.view_is) (sym (past-end t c.args.reference c.home-home.result at (search rules)))

pub returns-else-home-len-clause-keys : goal.returns-else-home-len-clause-keys
returns-else-home-len-clause-keys g c r =
    let t : TableView = record { buckets = c.self.inside.buckets.items; seed = c.self.inside.seed.value } in
    let at : home t c.args.reference ≡ c.home-home.result = search rules in
    rw (← c.self.view_is) (none-taken t c.args.reference (past-end t c.args.reference c.home-home.result at (search rules)) r)

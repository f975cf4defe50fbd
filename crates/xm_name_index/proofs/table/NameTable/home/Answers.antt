use Rattle.std.proofs.Common.{rules, ◌≡◌, length, ◌∙◌}
use Rattle.xm_name_index.specs.Tables.{home, home_among}
use Rattle.xm_name_index.proofs.table.NameTable.home.Goals as goal

pub returns : goal.returns
unfolding home
returns g c =
    let seed : c.args.seed ≡ c.self.inside.seed.value = rw (← c.self.view_is) at c.requires in
    let len : c.len.result ≡ length c.self.inside.buckets.items = search rules in
    let reference : c.from.result ≡ c.args.reference = search rules in
    rw (← c.self.view_is) (c.home_among.ensures ∙ (λ i. home_among (seed i) (len i) (reference i)))

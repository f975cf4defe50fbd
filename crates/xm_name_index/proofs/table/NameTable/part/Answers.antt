use Rattle.std.proofs.Common.{rules, ◌≡◌, ℕ, ◌*◌, length, ◌==◌, if◌then◌else◌, None, Bool, Option, ap, ◌∙◌}
use Rattle.xm_name_index.specs.Tables.{TableView, home_among, key_at}
use Rattle.xm_name_index.proofs.Buckets.{IsBy, kept-by, leaves-weaker}
use Rattle.xm_name_index.proofs.Placed.{key-there}
use Rattle.xm_name_index.proofs.table.NameTable.part.Goals as goal

pub returns : goal.returns
returns g c r =
    let t : TableView = record { buckets = c.self.inside.buckets.items; seed = c.self.inside.seed.value } in
    let old = c.index.result.now in
    let seed : c.args.seed ≡ t.seed = rw (← c.self.view_is) at c.requires.seed in
    let f : ℕ → Bool = λ (n : ℕ). home_among c.args.seed (2 * length t.buckets) n == c.args.at in
    rw (← c.self.view_is)
    (kept-by f r old c.retained.result c.retained.ensures.apart (leaves-weaker _ (IsBy f) (λ s b call. search rules) old c.retained.result c.retained.ensures.leaves)
    ∙ ap (λ (o : Option ℕ). if f r then o else None) (key-there t c.args.index r old (search rules) (search rules))
    ∙ (λ i. if home_among (seed i) (2 * length t.buckets) r == c.args.at then key_at t c.args.index r else None))

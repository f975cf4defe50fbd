use Rattle.std.proofs.Common.{rules}
use Rattle.xm_name_index.proofs.Buckets.{leaves-apart, leaves-four}
use Rattle.xm_name_index.proofs.bucket.Bucket.without.Goals as goal

pub invariant_of-result : goal.invariant_of-result
invariant_of-result c =
    leaves-apart _ c.self.inside.slots _ c.self.invariant
    (leaves-four _ c.self.inside.slots _ c.without.result c.without-2.result c.without-3.result c.without-4.result (search rules) c.without.ensures c.without-2.ensures c.without-3.ensures c.without-4.ensures)

pub returns-clause-leaves : goal.returns-clause-leaves
returns-clause-leaves c =
    rw (← c.self.view_is)
    (leaves-four _ c.self.inside.slots _ c.without.result c.without-2.result c.without-3.result c.without-4.result (search rules) c.without.ensures c.without-2.ensures c.without-3.ensures c.without-4.ensures)

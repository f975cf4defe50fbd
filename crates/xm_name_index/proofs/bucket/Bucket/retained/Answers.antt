use Rattle.std.proofs.Common.{rules}
use Rattle.xm_name_index.proofs.Buckets.{leaves-apart, leaves-four}
use Rattle.xm_name_index.proofs.bucket.Bucket.retained.Goals as goal

pub invariant_of-result : goal.invariant_of-result
invariant_of-result g c =
    leaves-apart _ c.self.inside.slots _ c.self.invariant
    (leaves-four _ c.self.inside.slots _ c.retained.result c.retained-2.result c.retained-3.result c.retained-4.result (search rules) c.retained.ensures c.retained-2.ensures c.retained-3.ensures c.retained-4.ensures)

pub returns-clause-leaves : goal.returns-clause-leaves
returns-clause-leaves g c =
    rw (← c.self.view_is)
    (leaves-four _ c.self.inside.slots _ c.retained.result c.retained-2.result c.retained-3.result c.retained-4.result (search rules) c.retained.ensures c.retained-2.ensures c.retained-3.ensures c.retained-4.ensures)

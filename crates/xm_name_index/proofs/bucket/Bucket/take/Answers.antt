use Rattle.xm_name_index.proofs.Buckets.{taken}
use Rattle.xm_name_index.proofs.bucket.Bucket.take.Goals as goal

pub returns-clause-keys : goal.returns-clause-keys
returns-clause-keys c r = taken c.args.reference r c.args.self.now c.without.result c.without.ensures.apart c.without.ensures.leaves

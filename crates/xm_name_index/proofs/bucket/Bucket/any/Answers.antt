use Rattle.std.proofs.Common.{rules}
use Rattle.xm_name_index.proofs.Buckets.{any-none, any-some}
use Rattle.xm_name_index.proofs.bucket.Bucket.any.Goals as goal

pub returns-in-Some-clause-some : goal.returns-in-Some-clause-some
returns-in-Some-clause-some c = any-some c.args.self.now c.in-Some.slot.now (search rules)

pub returns-in-None-clause-none : goal.returns-in-None-clause-none
returns-in-None-clause-none c r = any-none r c.args.self.now (search rules)

use Rattle.std.proofs.Common.{rules, arith}
use Rattle.xm_price_maps.proofs.NextBits.{none_above, some_above}
use Rattle.xm_price_maps.proofs.bits.bit_above.Goals as goal

pub returns-then-rest-eq0-clause-none : goal.returns-then-rest-eq0-clause-none
returns-then-rest-eq0-clause-none c = none_above c.args.word c.args.k c.if-rest-eq0.true

pub returns-else-rest-eq0-clause-some : goal.returns-else-rest-eq0-clause-some
returns-else-rest-eq0-clause-some c = some_above c.args.word c.args.k (search rules) (omega arith)

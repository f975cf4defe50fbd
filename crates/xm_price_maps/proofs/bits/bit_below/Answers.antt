use Rattle.xm_price_maps.proofs.NextBits.{none_below, some_below}
use Rattle.xm_price_maps.proofs.bits.bit_below.Goals as goal

pub returns-then-rest-eq0-clause-none : goal.returns-then-rest-eq0-clause-none
returns-then-rest-eq0-clause-none c = none_below c.args.word c.args.k c.requires c.if-rest-eq0.true

pub returns-else-rest-eq0-clause-some : goal.returns-else-rest-eq0-clause-some
returns-else-rest-eq0-clause-some c = some_below c.args.word c.args.k c.ilog2.result c.requires c.ilog2.ensures.power_le c.ilog2.ensures.next_power_gt

use Rattle.xm_price_maps.proofs.NextBits.{highest}
use Rattle.xm_price_maps.proofs.bits.last_bit.Goals as goal

pub returns-clause-last : goal.returns-clause-last
returns-clause-last c = (highest c.args.word c.ilog2.result c.ilog2.ensures.power_le c.ilog2.ensures.next_power_gt).1

use Rattle.std.proofs.Common.{rules, w64}
use Rattle.std.proofs.lemmas.Nat.Bits.{bit_at-trailing_zeros}
use Rattle.xm_price_maps.proofs.bits.first_bit.Goals as goal

pub returns-clause-marked : goal.returns-clause-marked
returns-clause-marked c = (bit_at-trailing_zeros w64 c.args.word c.requires (search rules)).1

pub returns-clause-first : goal.returns-clause-first
returns-clause-first c = (bit_at-trailing_zeros w64 c.args.word c.requires (search rules)).2

use Rattle.std.proofs.Common.{refl}
use Rattle.xm_ticks.proofs.Words.{flags_none}
use Rattle.xm_ticks.proofs.digits.eight_digits.Goals as goal

pub number_of-requires : goal.number_of-requires
number_of-requires c = flags_none 8 64 c.args.word refl c.if-word-ne0.false

pub returns-clause-digits : goal.returns-clause-digits
returns-clause-digits c = flags_none 8 64 c.args.word refl c.if-word-ne0.false

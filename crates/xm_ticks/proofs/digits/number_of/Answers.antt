use Rattle.xm_ticks.proofs.Words.{eight_number}
use Rattle.xm_ticks.proofs.digits.number_of.Goals as goal

pub returns : goal.returns
returns c = eight_number c.args.word c.ranges.word.fits c.requires

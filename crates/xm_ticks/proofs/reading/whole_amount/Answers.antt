use Rattle.std.proofs.Common.{arith}
use Rattle.xm_ticks.proofs.Texts.{whole_price}
use Rattle.xm_ticks.proofs.reading.whole_amount.Goals as goal

pub returns : goal.returns
returns c = λ tick. whole_price c.args.text.now c.in_ok-euros.field-0 tick (omega (arith, c.if-text-gt5.false)) c.in_ok-euros.ensures.value

use Rattle.std.proofs.Common.{refl}
use Rattle.std.specs.Fmt.{digits}
use Rattle.xm_rules.specs.Opening.{opening}
use Rattle.xm_rules.specs.Refusals.{refusal_of}
use Rattle.xm_rules.specs.Step.{reply, step}
use Rattle.xm_day.proofs.examples.cascade_trades.Goals as goal

pub returns : goal.returns
unfolding digits opening refusal_of step reply
returns c = refl

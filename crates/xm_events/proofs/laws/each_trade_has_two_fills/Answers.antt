use Rattle.xm_events.proofs.Told.{fills_of_trades}
use Rattle.xm_events.proofs.laws.each_trade_has_two_fills.Goals as goal

pub returns : goal.returns
returns c = λ s command. fills_of_trades s command

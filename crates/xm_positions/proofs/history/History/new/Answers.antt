use Rattle.xm_positions.proofs.Histories.{recorded-nothing}
use Rattle.xm_positions.proofs.history.History.new.Goals as goal

pub returns : goal.returns
returns c = recorded-nothing

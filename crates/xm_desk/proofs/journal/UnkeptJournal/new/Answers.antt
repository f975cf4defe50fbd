use Rattle.xm_desk.proofs.AcceptedSoFar.{accepted-nothing}
use Rattle.xm_desk.proofs.journal.UnkeptJournal.new.Goals as goal

pub returns : goal.returns
returns c = accepted-nothing

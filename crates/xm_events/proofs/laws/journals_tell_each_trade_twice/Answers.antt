use Rattle.xm_events.proofs.JournalUnits.{journal_tells}
use Rattle.xm_events.proofs.laws.journals_tell_each_trade_twice.Goals as goal

pub returns : goal.returns
returns c = λ j. journal_tells j

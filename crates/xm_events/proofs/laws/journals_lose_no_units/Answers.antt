use Rattle.xm_events.proofs.JournalUnits.{journal_conserves}
use Rattle.xm_events.proofs.laws.journals_lose_no_units.Goals as goal

pub returns : goal.returns
returns c = λ j member reference lawful unchanged. journal_conserves member reference j lawful unchanged

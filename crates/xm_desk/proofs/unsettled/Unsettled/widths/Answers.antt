use Rattle.std.proofs.Common.{rules}
use Rattle.xm_desk.proofs.Opens.{opens}
use Rattle.xm_desk.proofs.unsettled.Unsettled.widths.Goals as goal

pub returns-clause-lawful : goal.returns-clause-lawful
returns-clause-lawful g c = (opens c.self.inside.settings c.self.invariant.opens).0

use Rattle.std.proofs.Common.{◌∙◌}
use Rattle.xm_desk.proofs.AcceptedSoFar.{accepted-more}
use Rattle.xm_desk.proofs.journal.UnkeptJournalJournaling.add.Goals as goal

pub returns : goal.returns
returns c = accepted-more c.of.result c.of-2.result c.args.command.now c.args.self.now.last c.of.ensures (c.of-2.ensures ∙ c.replace-before.ensures.value)

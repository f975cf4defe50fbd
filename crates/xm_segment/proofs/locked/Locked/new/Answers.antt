use Rattle.std.proofs.Common.{◌∙◌, List, Some, ap, sym}
use Rattle.xm_board.specs.Journals.{unnumbered}
use Rattle.xm_board.specs.declared.journal.NumberedJournal.{NumberedJournal}
use Rattle.xm_rules.proofs.Journals.{journal_of}
use Rattle.xm_rules.specs.declared.commands.Command.{Command}
use Rattle.xm_segment.proofs.Counting.{fresh-counts}
use Rattle.xm_segment.proofs.locked.Locked.new.Goals as goal

pub invariant_of-result : goal.invariant_of-result
invariant_of-result g c =
    let unwritten = c.requires.unwritten in
    record {
      opened = c.requires.opened ∙ ap (λ (j : NumberedJournal). Some j.settings) (sym unwritten);
      published = ap unnumbered unwritten ∙ ap (λ (cs : List Command). journal_of c.args.desk.value.settings cs) (sym c.requires.fresh);
      counted = c.requires.nothing ∙ fresh-counts c.args.desk.value c.requires.fresh;
    }

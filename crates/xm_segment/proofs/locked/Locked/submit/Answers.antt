use Rattle.std.proofs.Common.{rules, ◌≡◌, ◌∙◌, Ok, Some, ap, arith, sym}
use Rattle.xm_board.specs.Journals.{unnumbered}
use Rattle.xm_board.specs.declared.journal.NumberedJournal.{NumberedJournal}
use Rattle.xm_rules.specs.Step.{Journal}
use Rattle.xm_segment.proofs.Publishing.{took-grown}
use Rattle.xm_segment.proofs.locked.Locked.submit.Goals as goal
use Rattle.xm_segment.specs.Ledgers.{Sums, ledger_sums, with_answer}

pub publish-requires-clause-took : goal.publish-requires-clause-took
publish-requires-clause-took g c =
    let l = c.self.inside in
    let lent : l.desk.value ≡ c.deref_mut.result.now = search rules in
    let shown : c.take.new.desk ≡ c.deref.result.now = search rules in
    took-grown l.pen c.tell.new.pen c.deref_mut.result.now c.take.new.desk c.tell.new.watch.number c.args.command.now c.tell.ensures.pen (c.self.invariant.published ∙ lent) c.in-Ok.ensures.accepted ∙ shown

pub invariant_of-self-2 : goal.invariant_of-self-2
invariant_of-self-2 g c =
    let l = c.self.inside in
    let lent : l.desk.value ≡ c.deref_mut.result.now = search rules in
    let opened = ap (λ (j : NumberedJournal). Some j.settings) c.publish.ensures.pen ∙ ap (λ (j : NumberedJournal). Some j.settings) c.tell.ensures.pen in
    let took = took-grown l.pen c.tell.new.pen c.deref_mut.result.now c.take.new.desk c.tell.new.watch.number c.args.command.now c.tell.ensures.pen (c.self.invariant.published ∙ lent) c.in-Ok.ensures.accepted in
    let counted = c.self.invariant.counted ∙ ap (λ (j : Journal). ledger_sums j) lent in
    record {
      opened = c.self.invariant.opened ∙ sym opened;
      published = ap unnumbered c.publish.ensures.pen ∙ took;
      counted = c.count.ensures.books ∙ ap (λ (s : Sums). with_answer s (Ok c.in-Ok.reply)) counted ∙ sym c.in-Ok.ensures.counted;
    }

pub returns-clause-within : goal.returns-clause-within
returns-clause-within g c =
    let counted = ap (λ (s : Sums). s.quantity) (invariant_of-self-2 g c).counted in
    omega (arith, c.count.ensures.within, counted, c.in-Ok.ensures.within)

use Rattle.std.proofs.Common.{◌≡◌, refl, ap, sym, ◌∙◌, subst}
use Rattle.xm_tests.proofs.Scripted.{called, opened, opened-quote}
use Rattle.xm_tests.proofs.Starting.{second-quote, starts}
use Rattle.xm_tests.specs.Script.{Stands, script_settings}
use Rattle.xm_board.specs.Journals.{IsLawful, entry_of, grown, quote_of}
use Rattle.xm_board.specs.declared.journal.NumberedJournal.{NumberedJournal}
use Rattle.xm_rules.specs.declared.commands.Command.TheVariants.{StartOpening, Uncross}
use Rattle.xm_rules.specs.declared.settings.DeskSettings.{DeskSettings}
use Rattle.xm_tests.proofs.board.script.open_day.Goals as goal

pub publish-requires-clause-lawful : goal.publish-requires-clause-lawful
publish-requires-clause-lawful g c = subst (λ (j : NumberedJournal). IsLawful (grown j (entry_of 0 StartOpening))) (sym c.requires) (starts script_settings refl)

pub publish-requires-clause-quote : goal.publish-requires-clause-quote
publish-requires-clause-quote g c =
    c.quote_in-first.ensures ∙ ap (λ (s : DeskSettings). record { version = 1; phase = _; best_buy = _; best_sell = _; ref1 = s.reference; ref2 = s.reference; quantity = 0 }) c.script_settings.ensures
    ∙ second-quote script_settings refl ∙ ap (λ (j : NumberedJournal). quote_of (grown j (entry_of 0 StartOpening))) (sym c.requires)

pub publish-requires-2-clause-lawful : goal.publish-requires-2-clause-lawful
publish-requires-2-clause-lawful g c =
    let is : c.publish.new.pen ≡ called = c.publish.ensures ∙ ap (λ (j : NumberedJournal). grown j (entry_of 0 StartOpening)) c.requires in
    subst (λ (j : NumberedJournal). IsLawful (grown j (entry_of 0 Uncross))) (sym is) opened.lawful

pub publish-requires-2-clause-quote : goal.publish-requires-2-clause-quote
publish-requires-2-clause-quote g c =
    let is : c.publish.new.pen ≡ called = c.publish.ensures ∙ ap (λ (j : NumberedJournal). grown j (entry_of 0 StartOpening)) c.requires in
    c.quote_before.ensures ∙ opened-quote ∙ ap (λ (j : NumberedJournal). quote_of (grown j (entry_of 0 Uncross))) (sym is)

pub returns : goal.returns
returns g c =
    let is : c.publish.new.pen ≡ called = c.publish.ensures ∙ ap (λ (j : NumberedJournal). grown j (entry_of 0 StartOpening)) c.requires in
    subst (Stands 0 0) (sym (c.publish-2.ensures ∙ ap (λ (j : NumberedJournal). grown j (entry_of 0 Uncross)) is)) opened

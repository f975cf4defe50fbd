use Rattle.std.proofs.Common.{ap, sym, ◌∙◌, ◌+◌, subst}
use Rattle.xm_tests.proofs.Scripted.{next, next-quote}
use Rattle.xm_tests.specs.Script.{Stands}
use Rattle.xm_board.specs.Journals.{IsLawful, entry_of, grown, quote_of}
use Rattle.xm_rules.specs.declared.commands.Command.{Command}
use Rattle.xm_tests.proofs.board.script.publish_turn.Goals as goal

pub publish-requires-clause-lawful : goal.publish-requires-clause-lawful
publish-requires-clause-lawful g c =
    subst (λ (command : Command). IsLawful (grown c.args.pen.now (entry_of 0 command))) (sym c.scripted_command.ensures) (next c.args.cycle c.args.turn c.args.pen.now c.requires.turn c.requires.cycle c.requires.stands).lawful

pub publish-requires-clause-quote : goal.publish-requires-clause-quote
publish-requires-clause-quote g c =
    c.quote_before.ensures ∙ next-quote c.args.cycle c.args.turn c.args.pen.now c.requires.turn c.requires.cycle c.requires.stands
    ∙ ap (λ (command : Command). quote_of (grown c.args.pen.now (entry_of 0 command))) (sym c.scripted_command.ensures)

pub returns : goal.returns
returns g c =
    subst (Stands c.args.cycle (c.args.turn + 1)) (sym (c.publish.ensures ∙ ap (λ (command : Command). grown c.args.pen.now (entry_of 0 command)) c.scripted_command.ensures))
    (next c.args.cycle c.args.turn c.args.pen.now c.requires.turn c.requires.cycle c.requires.stands)

use Rattle.std.proofs.Common.{rules, ◌≡◌, ap, sym, ◌∙◌}
use Rattle.xm_board.specs.Journals.{entry_of, grown, opening_of, quote_of}
use Rattle.xm_rules.specs.declared.commands.Command.TheVariants.{StartOpening}
use Rattle.xm_rules.specs.declared.settings.DeskSettings.{DeskSettings}
use Rattle.xm_tests.proofs.Starting.{first-quote, second-quote, starts, takes-none}
use Rattle.xm_tests.proofs.board.read.Goals as goal

pub new-requires : goal.new-requires
new-requires g c =
    let settings = c.args.settings.now in
    record { carried = takes-none settings c.requires; quote = c.quote_in-quote.ensures ∙ first-quote settings c.requires }

pub read_on-requires-clause-lawful : goal.read_on-requires-clause-lawful
read_on-requires-clause-lawful g c =
    let same : c.in_ok-opened.opened.settings ≡ c.args.settings.now = search rules in
    starts c.in_ok-opened.opened.settings (ap (λ (s : DeskSettings). s.carried) same ∙ c.requires)

pub read_on-requires-clause-quote : goal.read_on-requires-clause-quote
read_on-requires-clause-quote g c =
    let same : c.in_ok-opened.opened.settings ≡ c.args.settings.now = search rules in
    c.quote_in-first.ensures ∙ second-quote c.args.settings.now c.requires ∙ ap (λ (s : DeskSettings). quote_of (grown (opening_of s) (entry_of 0 StartOpening))) (sym same)

use Rattle.std.proofs.Common.{◌∷◌, ◌++◌}
use Rattle.std.proofs.lemmas.Bool.{and_parts, and_right}
use Rattle.xm_rules.specs.Opening.{are_carriable, opening}
use Rattle.xm_rules.specs.Step.{is_lawful, is_lawful_from, replay}
use Rattle.xm_rules.proofs.LawfulJournals.{lawful_at, unlawful_at}
use Rattle.xm_rules.proofs.laws.lawful_journals_hold_no_refused_command.Goals as goal

pub returns-clause-refused : goal.returns-clause-refused
unfolding replay is_lawful
returns-clause-refused c = λ settings commands more d r e.
    and_right (are_carriable settings) (is_lawful_from (opening settings) (commands ++ d ∷ more)) (unlawful_at (opening settings) commands d more r e)

pub returns-clause-lawful : goal.returns-clause-lawful
unfolding replay is_lawful
returns-clause-lawful c = λ settings commands more d e.
    lawful_at (opening settings) commands d more (and_parts (are_carriable settings) (is_lawful_from (opening settings) (commands ++ d ∷ more)) e).1

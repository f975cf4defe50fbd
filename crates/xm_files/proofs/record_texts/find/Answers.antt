use Rattle.std.proofs.Common.{◌≤◌, rules, ◌∙◌}
use Rattle.xm_files.proofs.Advances.{ended-within}
use Rattle.xm_files.specs.Unread.{IsWithin}
use Rattle.xm_files.proofs.record_texts.find.Goals as goal

pub returns-in-Ok-clause-none : goal.returns-in-Ok-clause-none
returns-in-Ok-clause-none c = λ none.
    let within : IsWithin c.args.text.now c.args.first c.if-line.csv = search rules in
    let counted : c.if-line.csv.line ≤ c.args.line = search rules in
    let advanced = c.in-Ok.ensures in
    ended-within c.args.text.now c.args.first c.if-line.csv c.advance.new.self c.args.line within advanced.left advanced.onward.0 advanced.onward.1 (c.advance.ensures.ended (c.in-Ok.is ∙ none))

use Rattle.std.proofs.Common.{ap, ap₂, ◌≡◌, ◌∙◌}
use Rattle.clap.specs.Words.{app_of, with_rule}
use Rattle.xm_program.specs.Requests.{auction_app, with_day_files}
use Rattle.xm_program.proofs.command_lines.auction_command.Goals as goal

pub returns-clause-app : goal.returns-clause-app
returns-clause-app c =
    let files = c.in_ok-with_day_files.ensures.app ∙ ap with_day_files c.titled-command.ensures.app in
    let security = c.in_ok-arg.ensures.shape c.needed.ensures.local ∙ ap₂ with_rule files c.needed.ensures.rule in
    let number = c.in_ok-arg-2.ensures.shape c.file.ensures.local ∙ ap₂ with_rule security c.file.ensures.rule in
    c.in_ok-command.ensures.shape c.flag.ensures.local ∙ ap₂ with_rule number c.flag.ensures.rule

use Rattle.std.proofs.Common.{ap₂, ◌≡◌, ◌∙◌, refl}
use Rattle.clap.specs.Words.{app_of, with_rule}
use Rattle.xm_program.proofs.command_lines.with_day_files.Goals as goal

pub returns-clause-app : goal.returns-clause-app
returns-clause-app c =
    let segment = c.in_ok-arg.ensures.shape c.path.ensures.local ∙ ap₂ with_rule refl c.path.ensures.rule in
    let orders = c.in_ok-arg-2.ensures.shape c.paths.ensures.local ∙ ap₂ with_rule segment c.paths.ensures.rule in
    c.in_ok-command.ensures.shape c.file.ensures.local ∙ ap₂ with_rule orders c.file.ensures.rule

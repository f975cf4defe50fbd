use Rattle.std.proofs.Common.{ap₂, ◌≡◌, ◌∙◌, refl}
use Rattle.clap.specs.Words.{app_of, with_rule}
use Rattle.xm_program.specs.Requests.{workers_rule}
use Rattle.xm_program.proofs.command_lines.with_options.Goals as goal

pub returns-clause-app : goal.returns-clause-app
returns-clause-app c =
    let first_is : app_of c.in_ok-arg.field-0 ≡ with_rule (app_of c.args.command) workers_rule = c.in_ok-arg.ensures.shape c.workers.ensures.local ∙ ap₂ with_rule refl c.workers.ensures.rule in
    let second_is = c.in_ok-arg-2.ensures.shape c.count.ensures.local ∙ ap₂ with_rule first_is c.count.ensures.rule in
    let third_is = c.in_ok-arg-3.ensures.shape c.file.ensures.local ∙ ap₂ with_rule second_is c.file.ensures.rule in
    let fourth_is = c.in_ok-arg-4.ensures.shape c.file-2.ensures.local ∙ ap₂ with_rule third_is c.file-2.ensures.rule in
    let fifth_is = c.in_ok-arg-5.ensures.shape c.file-3.ensures.local ∙ ap₂ with_rule fourth_is c.file-3.ensures.rule in
    let sixth_is = c.in_ok-arg-6.ensures.shape c.file-4.ensures.local ∙ ap₂ with_rule fifth_is c.file-4.ensures.rule in
    c.in_ok-command.ensures.shape c.flag.ensures.local ∙ ap₂ with_rule sixth_is c.flag.ensures.rule

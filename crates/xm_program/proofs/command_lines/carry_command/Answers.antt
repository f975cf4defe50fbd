use Rattle.std.proofs.Common.{ap, ap₂, ◌≡◌, ◌∙◌, IfOk, codes, subst}
use Rattle.clap.specs.Words.{App, app_of, new_app, with_rule}
use Rattle.clap.specs.Simple.{app_of_fields}
use Rattle.xm_program.specs.Requests.{with_options}
use Rattle.xm_program.proofs.command_lines.carry_command.Goals as goal

pub returns-clause-app : goal.returns-clause-app
returns-clause-app c =
    let top : app_of c.override_usage.result ≡ new_app (codes "carry") = ap app_of_fields c.override_usage.ensures ∙ c.titled.ensures.app in
    let segment = c.in_ok-arg.ensures.shape c.path.ensures.local ∙ ap₂ with_rule top c.path.ensures.rule in
    let from = c.in_ok-arg-2.ensures.shape c.path-2.ensures.local ∙ ap₂ with_rule segment c.path-2.ensures.rule in
    let orders = c.in_ok-arg-3.ensures.shape c.paths.ensures.local ∙ ap₂ with_rule from c.paths.ensures.rule in
    let out = c.in_ok-command.ensures.shape c.file.ensures.local ∙ ap₂ with_rule orders c.file.ensures.rule in
    subst (λ (app : App). IfOk c.with_options.result (λ command. app_of command ≡ with_options app)) out c.with_options.ensures.app

use Rattle.std.proofs.Common.{ap, ◌≡◌, ◌∙◌, true, codes}
use Rattle.clap.specs.Words.{App, app_of, new_app}
use Rattle.clap.specs.Simple.{app_of_fields, on_top}
use Rattle.xm_program.proofs.command_lines.top_command.Goals as goal

abbrev with_version : App → App
with_version = on_top (λ s. record s { has_version = true })

abbrev with_subcommand_required : App → App
with_subcommand_required = on_top (λ s. record s { subcommand_required = true })

abbrev with_help : App → App
with_help = on_top (λ s. record s { arg_required_else_help = true })

pub returns : goal.returns
returns c =
    let versioned : app_of c.version.result ≡ with_version (new_app (codes "xetra-day")) = ap app_of_fields c.version.ensures ∙ ap with_version c.titled.ensures.app in
    let required : app_of c.subcommand_required.result ≡ with_subcommand_required (with_version (new_app (codes "xetra-day"))) = ap app_of_fields c.subcommand_required.ensures ∙ ap with_subcommand_required versioned in
    ap app_of_fields c.arg_required_else_help.ensures ∙ ap with_help required

use Rattle.std.proofs.Common.{rules, ap, ap₂, ◌≡◌, ◌∙◌}
use Rattle.clap.specs.Words.{App, app_of, shape_of, with_subcommand}
use Rattle.xm_program.specs.Requests.{auction_app, carry_app, check_app, explain_app, run_app, top_app}
use Rattle.xm_program.proofs.command_lines.command_line.Goals as goal

pub returns : goal.returns
returns c =
    let top : app_of c.in_ok-bin_name.field-0 ≡ top_app = search (rules, c.top_command.ensures) in
    let run : shape_of c.in_ok-run_command.field-0 ≡ run_app.top = ap (λ (app : App). app.top) c.in_ok-run_command.ensures.app in
    let carry : shape_of c.in_ok-carry_command.field-0 ≡ carry_app.top = ap (λ (app : App). app.top) c.in_ok-carry_command.ensures.app in
    let check : shape_of c.in_ok-check_command.field-0 ≡ check_app.top = ap (λ (app : App). app.top) c.in_ok-check_command.ensures.app in
    let auction : shape_of c.in_ok-auction_command.field-0 ≡ auction_app.top = ap (λ (app : App). app.top) c.in_ok-auction_command.ensures.app in
    let explain : shape_of c.in_ok-explain_command.field-0 ≡ explain_app.top = ap (λ (app : App). app.top) c.in_ok-explain_command.ensures.app in
    let first = c.in_ok-subcommand.ensures.shape c.in_ok-run_command.ensures.local ∙ ap₂ with_subcommand top run in
    let second = c.in_ok-subcommand-2.ensures.shape c.in_ok-carry_command.ensures.local ∙ ap₂ with_subcommand first carry in
    let third = c.in_ok-subcommand-3.ensures.shape c.in_ok-check_command.ensures.local ∙ ap₂ with_subcommand second check in
    let fourth = c.in_ok-subcommand-4.ensures.shape c.in_ok-auction_command.ensures.local ∙ ap₂ with_subcommand third auction in
    c.in_ok-command.ensures.shape c.in_ok-explain_command.ensures.local ∙ ap₂ with_subcommand fourth explain

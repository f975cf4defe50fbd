use Rattle.std.proofs.Common.{◌∙◌, ap}
use Rattle.xm_rules.specs.declared.settings.DeskSettings.{DeskSettings}
use Rattle.xm_tests.proofs.Starting.{first-quote, takes-none}
use Rattle.xm_tests.proofs.board.script.read_published.Goals as goal

pub new-requires : goal.new-requires
new-requires g c =
    let settings = c.script_settings-settings.result in
    let none = ap (λ (s : DeskSettings). s.carried) c.script_settings-settings.ensures in
    record { carried = takes-none settings none; quote = c.quote_in-first.ensures ∙ first-quote settings none }

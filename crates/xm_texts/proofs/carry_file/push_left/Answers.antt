use Rattle.std.proofs.Common.{ap, ◌∙◌}
use Rattle.xm_rules.specs.Step.{replay}
use Rattle.xm_rules.specs.declared.settings.DeskSettings.{DeskSettings}
use Rattle.xm_texts.proofs.Leaving.{left-written}
use Rattle.xm_texts.proofs.carry_file.push_left.Goals as goal

pub returns : goal.returns
returns g c =
    left-written c.args.names.now c.args.index (replay c.args.desk.now) c.settings.result.now.tick c.settings-2.result.now.today c.security_name-security.result.now c.as_slice.result.now c.as_slice-2.result.now
    c.args.text.now.items c.push_orders.new.text.items c.push_stops.new.text.items
    (ap (λ (settings : DeskSettings). settings.tick) c.settings.ensures.kept) (ap (λ (settings : DeskSettings). settings.today) c.settings-2.ensures.kept) c.security_name-security.ensures
    (c.as_slice.ensures.value ∙ c.in_ok-orders.ensures) (c.as_slice-2.ensures.value ∙ c.in_ok-stops.ensures) c.in_ok-push_orders.ensures c.in_ok-push_stops.ensures

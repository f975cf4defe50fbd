use Rattle.std.proofs.Common.{ap, ◌∙◌}
use Rattle.xm_rules.specs.Step.{replay}
use Rattle.xm_rules.specs.declared.settings.DeskSettings.{DeskSettings}
use Rattle.xm_texts.proofs.StatementLines.{security-written}
use Rattle.xm_texts.proofs.statements.push_security.Goals as goal

pub returns : goal.returns
returns g c =
    security-written c.args.names.now c.args.index (replay c.args.desk.now) c.settings.result.now.tick c.trades.result.now c.as_slice.result.now c.as_slice-2.result.now
    c.args.text.now.items c.push_heading.new.text.items c.push_trades.new.text.items c.push_orders.new.text.items c.push_stops.new.text.items c.push_nets.new.text.items c.push_total.new.text.items
    (ap (λ (settings : DeskSettings). settings.tick) c.settings.ensures.kept) c.trades.ensures.trades (c.as_slice.ensures.value ∙ c.in_ok-orders.ensures) (c.as_slice-2.ensures.value ∙ c.in_ok-stops.ensures)
    c.in_ok-push_heading.ensures c.in_ok-push_trades.ensures c.in_ok-push_orders.ensures c.in_ok-push_stops.ensures c.in_ok-push_nets.ensures c.in_ok-push_total.ensures

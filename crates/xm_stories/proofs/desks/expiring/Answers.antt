use Rattle.std.proofs.Common.{ap, filter, not, rules, ◌∙◌}
use Rattle.std.proofs.lemmas.Fn.{filter_same}
use Rattle.xm_rules.specs.Commands.{outlasts}
use Rattle.xm_rules.specs.Step.{replay}
use Rattle.xm_rules.specs.declared.orders.Order.{Order}
use Rattle.xm_rules.specs.declared.orders.Stop.{Stop}
use Rattle.xm_rules.specs.declared.settings.DeskSettings.{DeskSettings}
use Rattle.xm_stories.proofs.desks.expiring.Goals as goal

pub returns : goal.returns
returns g c =
    let today = c.settings.result.now.today in
    let s = replay c.args.desk.now in
    let orders = filter_same _ (λ (o : Order). not (outlasts today o.validity)) _ (λ a r f k. search rules) _ _ c.retain.ensures.filtered in
    let stops = filter_same _ (λ (stop : Stop). not (outlasts today stop.validity)) _ (λ a r f k. search rules) _ _ c.retain-2.ensures.filtered in (
      orders ∙ ap (filter (λ (o : Order). not (outlasts today o.validity))) c.in_ok-orders.ensures ∙ ap (λ (d : DeskSettings). filter (λ (o : Order). not (outlasts d.today o.validity)) s.orders) c.settings.ensures.kept,
      stops ∙ ap (filter (λ (stop : Stop). not (outlasts today stop.validity))) c.in_ok-stops.ensures ∙ ap (λ (d : DeskSettings). filter (λ (stop : Stop). not (outlasts d.today stop.validity)) s.stops) c.settings.ensures.kept,
    )

use Rattle.std.proofs.Common.{◌≡◌, ◌==◌, ◌∙◌, List, ap, filter, subst}
use Rattle.std.specs.Prelude.{IfOk}
use Rattle.xm_rules.specs.declared.orders.Stop.{Stop}
use Rattle.xm_desk.proofs.unsettled.market.Market.stops_of.Goals as goal

pub returns : goal.returns
returns g c =
    subst (λ (ss : List Stop). IfOk c.of_member.result (λ stops. stops.items ≡ filter (λ (s : Stop). s.member == c.args.member) ss))
    (ap (λ m. m.inside.state.stops) c.self-inside.view_is ∙ ap (λ m. m.state.stops) c.self.view_is) c.of_member.ensures

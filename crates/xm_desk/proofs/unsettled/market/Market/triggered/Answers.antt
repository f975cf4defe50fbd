use Rattle.std.proofs.Common.{◌≡◌, ◌∙◌, List, ap, subst}
use Rattle.std.specs.Prelude.{IfOk}
use Rattle.xm_rules.specs.declared.orders.Stop.{Stop}
use Rattle.xm_desk.proofs.unsettled.market.Market.triggered.Goals as goal

pub returns : goal.returns
returns g c =
    subst (λ (ss : List Stop). IfOk c.gone.result (λ stops. stops.items ≡ ss)) (ap (λ m. m.inside.seen.triggered) c.self-inside.view_is ∙ ap (λ m. m.seen.triggered) c.self.view_is) c.gone.ensures

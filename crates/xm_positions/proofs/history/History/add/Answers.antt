use Rattle.std.proofs.Common.{◌∷◌, [], ◌++◌, ap, ◌∙◌}
use Rattle.xm_positions.proofs.Histories.{recorded-more}
use Rattle.xm_positions.proofs.history.History.add.Goals as goal

pub returns : goal.returns
returns c =
    let more = recorded-more c.of.result c.of-2.result c.args.trade.now c.self.inside.last c.of.ensures (c.of-2.ensures ∙ c.replace-before.ensures.value) in
    more ∙ ap (λ ts. ts ++ c.args.trade.now ∷ []) c.self.view_is

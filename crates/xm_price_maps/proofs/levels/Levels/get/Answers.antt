use Rattle.std.proofs.Common.{sym, ◌∙◌}
use Rattle.xm_price_maps.proofs.Leveled.{absent-at, level-at, there-at}
use Rattle.xm_price_maps.proofs.levels.Levels.get.Goals as goal

pub returns-in_err-key : goal.returns-in_err-key
returns-in_err-key g c = rw (← c.self.view_is) (c.from_residual.ensures ∙ sym (absent-at c.self.inside.prices c.self.inside.keys c.self.inside.levels c.args.price (sym c.get.ensures ∙ c.in_err-key.was)))

pub index-priced-requires : goal.index-priced-requires
index-priced-requires g c = there-at c.self.inside.prices c.self.inside.keys c.self.inside.levels c.self.invariant c.args.price c.in_ok-key.key (sym c.get.ensures ∙ c.in_ok-key.was)

pub returns : goal.returns
returns g c = rw (← c.self.view_is) (sym (level-at c.self.inside.prices c.self.inside.keys c.self.inside.levels c.args.price c.in_ok-key.key c.index-priced.result.now (sym c.get.ensures ∙ c.in_ok-key.was) c.index-priced.ensures))

use Rattle.std.proofs.Common.{sym, ap, ◌∙◌}
use Rattle.xm_price_maps.specs.Levels.{LevelsView}
use Rattle.xm_price_maps.specs.Map.{value_at}
use Rattle.xm_price_maps.proofs.Leveled.{absent-level}
use Rattle.xm_price_maps.proofs.levels.Levels.remove.Goals as goal

pub end-requires-clause-there : goal.end-requires-clause-there
end-requires-clause-there g c = ap (λ (l : LevelsView g.row.L.Denot). value_at l.keys c.args.price) (sym c.self.view_is) ∙ sym c.get.ensures ∙ c.in-Some.is

pub returns-in-None-clause-levels : goal.returns-in-None-clause-levels
returns-in-None-clause-levels g c = rw (← c.self.view_is) (absent-level c.self.inside.prices c.self.inside.keys c.self.inside.levels c.self.invariant c.args.price (sym c.get.ensures ∙ c.in-None.is))

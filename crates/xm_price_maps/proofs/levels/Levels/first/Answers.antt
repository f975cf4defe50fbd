use Rattle.xm_price_maps.proofs.Leveled.{first-level, none-anywhere}
use Rattle.xm_price_maps.proofs.levels.Levels.first.Goals as goal

pub returns-clause-some : goal.returns-clause-some
returns-clause-some g c = rw (← c.self.view_is) (first-level c.self.inside.prices c.self.inside.keys c.self.inside.levels c.self.invariant c.first.result c.first.ensures.some)

pub returns-clause-none : goal.returns-clause-none
returns-clause-none g c = rw (← c.self.view_is) (none-anywhere c.self.inside.prices c.self.inside.keys c.self.inside.levels c.self.invariant c.first.result c.first.ensures.none)

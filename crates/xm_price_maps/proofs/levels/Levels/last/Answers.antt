use Rattle.xm_price_maps.proofs.Leveled.{last-level, none-anywhere}
use Rattle.xm_price_maps.proofs.levels.Levels.last.Goals as goal

pub returns-clause-some : goal.returns-clause-some
returns-clause-some g c = rw (← c.self.view_is) (last-level c.self.inside.prices c.self.inside.keys c.self.inside.levels c.self.invariant c.last.result c.last.ensures.some)

pub returns-clause-none : goal.returns-clause-none
returns-clause-none g c = rw (← c.self.view_is) (none-anywhere c.self.inside.prices c.self.inside.keys c.self.inside.levels c.self.invariant c.last.result c.last.ensures.none)

use Rattle.std.proofs.Common.{◌<◌}
use Rattle.xm_price_maps.proofs.Leveled.{level-below, none-all}
use Rattle.xm_price_maps.proofs.levels.Levels.next_below.Goals as goal

pub returns-clause-some : goal.returns-clause-some
returns-clause-some g c = rw (← c.self.view_is) (level-below c.self.inside.prices c.self.inside.keys c.self.inside.levels c.self.invariant c.args.price c.next_below.result c.next_below.ensures.some)

pub returns-clause-none : goal.returns-clause-none
returns-clause-none g c = rw (← c.self.view_is) (none-all c.self.inside.prices c.self.inside.keys c.self.inside.levels c.self.invariant c.next_below.result (λ q. q < c.args.price) c.next_below.ensures.none)

use Rattle.std.proofs.Common.{◌<◌}
use Rattle.xm_price_maps.proofs.Leveled.{level-above, none-all}
use Rattle.xm_price_maps.proofs.levels.Levels.next_above.Goals as goal

pub returns-clause-some : goal.returns-clause-some
returns-clause-some g c = rw (← c.self.view_is) (level-above c.self.inside.prices c.self.inside.keys c.self.inside.levels c.self.invariant c.args.price c.next_above.result c.next_above.ensures.some)

pub returns-clause-none : goal.returns-clause-none
returns-clause-none g c = rw (← c.self.view_is) (none-all c.self.inside.prices c.self.inside.keys c.self.inside.levels c.self.invariant c.next_above.result (λ q. c.args.price < q) c.next_above.ensures.none)

use Rattle.std.proofs.Common.{rules, ap, arith}
use Rattle.xm_book.specs.Levels.{IsLevelFound, level_for}
use Rattle.xm_ladders.specs.declared.level.Level.{Level}
use Rattle.xm_book.proofs.levels.leave_level.Goals as goal

pub level_left-left-requires-clause-orders : goal.level_left-left-requires-clause-orders
level_left-left-requires-clause-orders g c =
    let found : IsLevelFound (level_for c.args.order.now c.args.ladders.now) c.unwrap-before.result = search rules in
    c.requires.orders c.unwrap-before.result found

pub level_left-left-requires-clause-units : goal.level_left-left-requires-clause-units
level_left-left-requires-clause-units g c =
    let found : IsLevelFound (level_for c.args.order.now c.args.ladders.now) c.unwrap-before.result = search rules in
    c.requires.units c.unwrap-before.result found

pub put-requires-clause-units : goal.put-requires-clause-units
put-requires-clause-units g c =
    let found : IsLevelFound (level_for c.args.order.now c.args.ladders.now) c.unwrap-before.result = search rules in
    let units = ap (λ (l : Level). l.units) c.level_left-left.ensures in
    omega (arith, units, c.requires.few c.unwrap-before.result found)

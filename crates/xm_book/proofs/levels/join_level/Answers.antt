use Rattle.std.proofs.Common.{◌+◌, subst, sym, ap, ◌∙◌, rules, arith}
use Rattle.xm_ladders.specs.Ladders.{ladder_on}
use Rattle.xm_ladders.specs.Ladder.{HasLevels, LadderView}
use Rattle.xm_ladders.specs.declared.level.Level.{Level}
use Rattle.xm_book.specs.Levels.{IsLevelFound, level_for}
use Rattle.xm_book.proofs.Placing.{levels-less, on_all}
use Rattle.xm_book.proofs.levels.join_level.Goals as goal

pub level_joined-requires-clause-orders : goal.level_joined-requires-clause-orders
level_joined-requires-clause-orders g c =
    let found : IsLevelFound (level_for c.args.order.now c.args.ladders.now) c.in-Some.before = search rules in
    c.requires.orders c.in-Some.before found

pub level_joined-requires-clause-units : goal.level_joined-requires-clause-units
level_joined-requires-clause-units g c =
    let found : IsLevelFound (level_for c.args.order.now c.args.ladders.now) c.in-Some.before = search rules in
    omega (arith, c.requires.units c.in-Some.before found)

pub level_joined-requires-in-None-clause-units : goal.level_joined-requires-in-None-clause-units
level_joined-requires-in-None-clause-units g c =
    let found : IsLevelFound (level_for c.args.order.now c.args.ladders.now) c.empty-before.result = search rules in
    omega (arith, c.requires.units c.empty-before.result found)

pub returns-in-Some-clause-room_used : goal.returns-in-Some-clause-room_used
returns-in-Some-clause-room_used g c s r k n =
    let P : LadderView → LadderView → Type 0 = λ (a b : LadderView). HasLevels a k (n + 1) → HasLevels b k n in
    rw c.of_mut.ensures.value (on_all P (λ l h. levels-less l k n h) c.args.ladders.now c.args.order.now.side c.args.order.now.restriction c.put.new.self (λ h. c.put.ensures.room_used k n (subst (λ (l : LadderView). HasLevels l k (n + 1)) (sym (c.of_mut-ladder.ensures.value ∙ ap (ladder_on c.args.order.now.restriction) c.of_mut.ensures.value)) h)) s r)

pub returns-in-None-clause-room_used : goal.returns-in-None-clause-room_used
returns-in-None-clause-room_used g c s r k n =
    let P : LadderView → LadderView → Type 0 = λ (a b : LadderView). HasLevels a k (n + 1) → HasLevels b k n in
    rw c.of_mut.ensures.value (on_all P (λ l h. levels-less l k n h) c.args.ladders.now c.args.order.now.side c.args.order.now.restriction c.put-in-None.new.self (λ h. c.put-in-None.ensures.room_used k n (subst (λ (l : LadderView). HasLevels l k (n + 1)) (sym (c.of_mut-ladder.ensures.value ∙ ap (ladder_on c.args.order.now.restriction) c.of_mut.ensures.value)) h)) s r)

pub put-requires-clause-units : goal.put-requires-clause-units
put-requires-clause-units g c =
    let found : IsLevelFound (level_for c.args.order.now c.args.ladders.now) c.in-Some.before = search rules in
    omega (arith, ap (λ (l : Level). l.units) c.level_joined.ensures, c.requires.units c.in-Some.before found)

pub put-requires-in-None-clause-units : goal.put-requires-in-None-clause-units
put-requires-in-None-clause-units g c =
    let found : IsLevelFound (level_for c.args.order.now c.args.ladders.now) c.empty-before.result = search rules in
    omega (arith, ap (λ (l : Level). l.units) c.level_joined-in-None.ensures, c.requires.units c.empty-before.result found)

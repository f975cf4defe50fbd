use Rattle.std.proofs.Common.{◌≡◌, rules, arith, sym, true}
use Rattle.xm_rules.specs.Sides.{reaches}
use Rattle.xm_auction.proofs.Crossings.{advance-other, advance-own, is-level, other-made}
use Rattle.xm_auction.proofs.Curves.{fewer-next}
use Rattle.xm_auction.proofs.covered.Crossing.advance.Goals as goal

pub returns-then-level-self-clause-kept : goal.returns-then-level-self-clause-kept
returns-then-level-self-clause-kept g c =
    advance-other c.args.phase c.args.book.now.orders c.args.self.now.own c.args.self.now.other c.requires c.in-Some.level (sym c.in-Some.ensures) c.if-level-self.true
    c.with_level-self.result c.with_level-self.ensures

pub returns-then-level-self-clause-fewer : goal.returns-then-level-self-clause-fewer
returns-then-level-self-clause-fewer g c = λ t.
    let other = c.args.self.now.other in
    let orders = c.args.book.now.orders in
    let is = other-made c.args.phase orders c.args.self.now.own other c.requires in
    let next = (is-level c.args.self.now.own other.next c.in-Some.level (sym c.in-Some.ensures)).0 in
    omega (arith, fewer-next c.args.phase other c.with_level-self.result orders c.in-Some.level is next c.with_level-self.ensures)

pub returns-then-before-clause-kept : goal.returns-then-before-clause-kept
returns-then-before-clause-kept g c =
    let before : reaches c.args.self.now.own.side c.in-Some-next.next.0 c.in-Some.level.0 ≡ true = search rules in
    advance-own c.args.phase c.args.book.now.orders c.args.self.now.own c.args.self.now.other c.requires c.in-Some.level (sym c.in-Some.ensures) c.if-level-self.false
    c.in-Some-next.next (c.in-Some-next.is) before c.with_level-self-then-before.result c.with_level-self-then-before.ensures

pub returns-then-before-clause-fewer : goal.returns-then-before-clause-fewer
returns-then-before-clause-fewer g c = λ t.
    let own = c.args.self.now.own in
    omega (arith, fewer-next c.args.phase own c.with_level-self-then-before.result c.args.book.now.orders c.in-Some-next.next c.requires.own_depth (c.in-Some-next.is) c.with_level-self-then-before.ensures)

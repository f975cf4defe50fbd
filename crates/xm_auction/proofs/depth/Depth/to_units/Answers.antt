use Rattle.std.proofs.Common.{ap, ◌∙◌, Some}
use Rattle.xm_auction.specs.declared.depth.Depth.{Depth}
use Rattle.xm_auction.proofs.Curves.{depth-made, fewer-next, limit-made, next-candidate, short-more, short-none}
use Rattle.xm_auction.proofs.depth.Depth.to_units.Goals as goal

pub returns-in_err-level-clause-none : goal.returns-in_err-level-clause-none
returns-in_err-level-clause-none g c =
    let d = c.loop-depth.depth in
    let kept = c.loop-depth.invariant in
    rw c.from_residual.ensures
    (short-none c.args.phase c.args.self.now.side d c.args.book.now.orders c.args.units kept.side kept.depth c.in_err-level.was c.loop-depth-test.true)

pub loop-depth-smaller : goal.loop-depth-smaller
loop-depth-smaller g c =
    let d = c.loop-depth.depth in
    let kept = c.loop-depth.invariant in
    fewer-next c.args.phase d c.with_level-depth.result c.args.book.now.orders c.in_ok-level.level kept.depth c.in_ok-level.was c.with_level-depth.ensures

pub loop-depth-preserved : goal.loop-depth-preserved
loop-depth-preserved g c =
    let d = c.loop-depth.depth in
    let e = c.with_level-depth.result in
    let orders = c.args.book.now.orders in
    let kept = c.loop-depth.invariant in
    record {
      side = ap (λ (f : Depth). f.side) c.with_level-depth.ensures ∙ kept.side;
      depth = depth-made c.args.phase d.side (Some c.in_ok-level.level.0) e orders c.with_level-depth.ensures;
      limit = limit-made c.args.phase d.side c.in_ok-level.level.0 e orders (next-candidate c.args.phase d orders c.in_ok-level.level kept.depth c.in_ok-level.was) c.with_level-depth.ensures;
      before = λ x r s. short-more c.args.phase d e orders c.args.units c.in_ok-level.level kept.depth c.in_ok-level.was c.loop-depth-test.true c.with_level-depth.ensures x r;
    }

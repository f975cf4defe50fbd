use Rattle.std.proofs.Common.{ap, ◌∙◌}
use Rattle.xm_auction.specs.declared.depth.Depth.{Depth}
use Rattle.xm_auction.proofs.Crossings.{never-covered, starts}
use Rattle.xm_auction.proofs.covered.Covered.best_from.Goals as goal

pub returns-in_err-own : goal.returns-in_err-own
returns-in_err-own g c =
    c.from_residual.ensures ∙ never-covered c.args.phase c.args.book.now.orders c.args.own.now c.args.other.now c.requires c.in_err-own.ensures.none

pub loop-init : goal.loop-init
loop-init g c =
    let is = c.in_ok-own.ensures in
    record {
      side = ap (λ (d : Depth). d.side) is.depth;
      kept = starts c.args.phase c.args.book.now.orders c.args.own.now c.args.other.now c.requires c.in_ok-own.own is.depth is.limit is.enough is.before;
    }

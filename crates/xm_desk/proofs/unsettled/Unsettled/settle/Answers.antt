use Rattle.std.proofs.Common.{◌∙◌}
use Rattle.xm_desk.proofs.Making.{makes-both}
use Rattle.xm_desk.proofs.unsettled.Unsettled.settle.Goals as goal

pub loop-preserved : goal.loop-preserved
loop-preserved g c =
    record {
      same = c.settle_next.ensures.same c.loop-test.true ∙ c.loop.invariant.same;
      told = c.settle_next.ensures.told c.loop-test.true ∙ c.loop.invariant.told;
      standing = c.settle_next.ensures.standing;
      made = makes-both c.args.self.now c.loop.self c.settle_next.new.self c.loop.invariant.made c.settle_next.ensures.made;
    }

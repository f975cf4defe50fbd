use Rattle.std.proofs.Common.{◌∙◌, ap, length, sym, subst}
use Rattle.std.specs.Prelude.{slice_get}
use Rattle.xm_segment.proofs.Lanes.{answer-fits, answer-lanes, known-or}
use Rattle.xm_segment.specs.Ledgers.{FitLanes, SharedRow}
use Rattle.xm_segment.proofs.segment.Segment.take.Goals as goal

pub invariant_of-seat : goal.invariant_of-seat
invariant_of-seat g c =
    let settings = g.S.Naming.settings in
    let before = c.seat.inside.shares.sums in
    let sums = ap (λ (r : SharedRow). r.sums) c.count.ensures.shares in
    record {
      parts = ap (λ (r : SharedRow). r.parts) c.count.ensures.shares;
      within = c.count.ensures.within c.seat.invariant.within;
      fit = subst (FitLanes settings) (sym sums) (answer-fits settings c.args.security before c.count.result (known-or c.args.security (slice_get settings c.args.security) c.args.command.now c.count.result c.seat.inside.row.watches c.count.new.row.watches c.count.ensures.watches) c.seat.invariant.fit);
      lanes = ap length sums ∙ answer-lanes c.args.security before c.count.result ∙ c.seat.invariant.lanes;
    }

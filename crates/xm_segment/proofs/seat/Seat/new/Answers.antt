use Rattle.std.proofs.Common.{List, ap, length, sym, subst}
use Rattle.xm_segment.proofs.Lanes.{nothing-fits, nothing-there, nothing-within}
use Rattle.xm_segment.specs.Ledgers.{AreWithinDay, FitLanes, SharedRow, Sums, nothing_counted}
use Rattle.xm_segment.proofs.seat.Seat.new.Goals as goal

pub invariant_of-result : goal.invariant_of-result
invariant_of-result g c =
    let none = sym (ap (λ (r : SharedRow). r.sums) c.requires.shares) in
    record {
      parts = ap (λ (r : SharedRow). r.parts) c.requires.shares;
      within = subst AreWithinDay none nothing-within;
      lanes = ap (λ (ss : List Sums). length ss) (sym none);
      fit = subst (FitLanes g.S.Naming.settings) none (nothing-fits g.S.Naming.settings nothing_counted nothing-there c.requires.few);
    }

use Rattle.std.proofs.Common.{◌≡◌, ℕ, ◌≤◌, ◌++◌, length, take, drop, sum_by}
use Rattle.xm_events.specs.Life.{taken, with_rests}
use Rattle.xm_stories.specs.TakenUnits.{units_under}
use Rattle.xm_stories.proofs.rests.with_rests.Given as goal

abbrev pub invariant-loop-index : goal.invariant-loop-index
invariant-loop-index g l = record {
  within : l.index ≤ length l.events;
  told : l.events ≡ take l.index l.initial.events ++ with_rests (g.L.Left.units l.left) (drop l.index l.initial.events);
  summed : (m r : ℕ) → units_under l.behind m r ≡ sum_by (taken m r) (drop l.index l.initial.events);
}

abbrev pub decreases-loop-index : goal.decreases-loop-index
decreases-loop-index g l = l.index

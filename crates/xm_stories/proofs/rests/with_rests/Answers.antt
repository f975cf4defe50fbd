use Rattle.std.proofs.Common.{◌≡◌, ℕ, ◌-◌, ◌<◌, suc, length, drop, arith}
use Rattle.std.proofs.Math.ListN.{length-set}
use Rattle.xm_events.specs.Life.{taken}
use Rattle.xm_stories.specs.TakenUnits.{units_under}
use Rattle.xm_stories.proofs.BackToFront.{behind_le, set_told, sum_here, summed_at, told_at}
use Rattle.xm_stories.proofs.rests.with_rests.Goals as goal

pub with_rest-requires : goal.with_rest-requires
with_rest-requires g c = λ m r.
    omega (arith, c.loop-index.invariant.summed m r, behind_le (taken m r) c.args.events.now c.loop-index.index, c.requires m r)

pub take-requires : goal.take-requires
take-requires g c = λ m r.
    let xs = c.args.events.now in
    let left = g.L.Left.units c.args.left.now in
    let i = c.loop-index.index - 1 in
    let same : c.loop-index.index ≡ suc i = omega arith in
    let told = told_at left xs c.loop-index.events c.loop-index.index i same c.loop-index.invariant.told in
    let within : i < length xs = omega arith in
    let sum = sum_here left xs c.loop-index.events i c.index-events-index.result told within c.index-events-index.is (taken m r) in
    let behind = summed_at (taken m r) xs (units_under c.loop-index.behind m r) c.loop-index.index i same (c.loop-index.invariant.summed m r) in
    omega (arith, sum, behind, behind_le (taken m r) xs i, c.requires m r)

pub loop-index-preserved : goal.loop-index-preserved
loop-index-preserved g c =
    let xs = c.args.events.now in
    let left = g.L.Left.units c.args.left.now in
    let i = c.loop-index.index - 1 in
    let e = c.index-events-index.result in
    let same : c.loop-index.index ≡ suc i = omega arith in
    let told = told_at left xs c.loop-index.events c.loop-index.index i same c.loop-index.invariant.told in
    let within : i < length xs = omega arith in
    let summed = λ (m r : ℕ). summed_at (taken m r) xs (units_under c.loop-index.behind m r) c.loop-index.index i same (c.loop-index.invariant.summed m r) in
    record {
      within = omega (arith, length-set c.loop-index.events i c.with_rest.result);
      told = set_told left xs c.loop-index.events i e told within c.index-events-index.is c.with_rest.result (c.with_rest.ensures (drop (suc i) xs) summed);
      summed = λ m r.
          let sum = sum_here left xs c.loop-index.events i e told within c.index-events-index.is (taken m r) in
          let behind = summed m r in
          let added = c.in_ok-take.ensures m r in
          omega (arith, sum, behind, added);
    }

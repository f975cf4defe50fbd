use Rattle.std.proofs.Common.{◌≡◌, ◌≤◌, ◌+◌, None, Some, ap, length, sym, ◌∙◌, arith}
use Rattle.xm_desk.specs.Shown.{level_in}
use Rattle.xm_reasons.specs.Walks.{curve_of}
use Rattle.xm_reasons.proofs.FewUnits.{few-units}
use Rattle.xm_reasons.proofs.Walking.{curve-next, curve-pushed, level-adds}
use Rattle.xm_rules.specs.Auction.{accepting}
use Rattle.xm_rules.specs.Step.{replay}
use Rattle.xm_rules.specs.declared.settings.DeskSettings.{DeskSettings}
use Rattle.xm_ticks.specs.declared.numbers.TheConstants.{MAX_JOURNAL_LIMIT}
use Rattle.xm_reasons.proofs.walks.curve.Goals as goal

pub overflow_add-units : goal.overflow_add-units
overflow_add-units g c =
    let s = replay c.args.desk.now in
    let level = c.in-Some.level in
    let found : level_in s c.args.side c.loop-level.limit ≡ Some level = sym c.level_after.ensures ∙ c.in-Some.is in
    let units = c.loop-level.invariant.units in
    let same = ap (λ (d : DeskSettings). d.limit) c.settings.ensures.opened in
    let few : c.args.desk.now.settings.limit ≤ MAX_JOURNAL_LIMIT = omega (arith, same, c.get.ensures.value, c.get.ensures.high) in
    omega (arith, units, level-adds s c.args.side c.loop-level.limit level found, few-units c.args.desk.now c.args.side level.0 c.accepted.ensures.lawful few)

pub loop-level-smaller : goal.loop-level-smaller
loop-level-smaller g c =
    let s = replay c.args.desk.now in
    let level = c.in-Some.level in
    let found : level_in s c.args.side c.loop-level.limit ≡ Some level = sym c.level_after.ensures ∙ c.in-Some.is in
    let next = ap length (curve-next s c.args.side c.loop-level.limit level found) in
    omega (arith, next)

pub loop-level-preserved : goal.loop-level-preserved
loop-level-preserved g c =
    let s = replay c.args.desk.now in
    let level = c.in-Some.level in
    let found : level_in s c.args.side c.loop-level.limit ≡ Some level = sym c.level_after.ensures ∙ c.in-Some.is in
    let adds = level-adds s c.args.side c.loop-level.limit level found in
    let before = c.loop-level.invariant.units in
    let units : c.loop-level.units + level.1 ≡ accepting s.phase s.orders c.args.side level.0 = omega (arith, before, adds) in
    record {
      units = units;
      points = curve-pushed s c.args.side c.loop-level.limit level (c.loop-level.units + level.1) (curve_of s c.args.side None) c.loop-level.points.items c.push.new.self.items found units
          c.loop-level.invariant.points c.in_ok-push.ensures.items;
    }

use Rattle.std.proofs.Common.{◌≡◌, ◌==◌, ◌+◌, ◌-◌, ◌/◌, ◌<◌, ℕ, if◌then◌else◌, Some, ap, sym, ◌∙◌, subst, arith}
use Rattle.xm_ladders.specs.Ladder.{HasLevels, LadderView, units_of}
use Rattle.xm_ladders.proofs.Summing.{held-after, sum-fits, sum-there, summed-put}
use Rattle.xm_ladders.specs.declared.level.Level.{Level}
use Rattle.xm_price_maps.proofs.Callers.{room-less}
use Rattle.xm_price_maps.specs.Levels.{level_at}
use Rattle.xm_price_maps.specs.Sums.{places_of, group_sum}
use Rattle.xm_price_maps.specs.declared.marks.TheConstants.{PRICES}
use Rattle.xm_rules.specs.declared.orders.OrderKind.{OrderKind}
use Rattle.xm_rules.specs.declared.orders.OrderKind.TheVariants.{Market, Limit}
use Rattle.xm_ladders.proofs.ladder.Ladder.put.Goals as goal

-- market orders take no room from the limits
unused : (l : LadderView) (market : Level) (k : OrderKind) (n : ℕ) → HasLevels l k (n + 1) → HasLevels (record { market = market; limits = l.limits; sums = l.sums }) k n
unused l market Market n r = tt
unused l market (Limit p) n r = room-less l.limits n r

pub returns-in-Market-clause-room_used : goal.returns-in-Market-clause-room_used
returns-in-Market-clause-room_used g c = rw (← c.self.view_is) (unused (record { market = c.self.inside.market; limits = c.self.inside.limits; sums = c.self.inside.sums }) c.args.level)

pub replace-requires-clause-there : goal.replace-requires-clause-there
replace-requires-clause-there g c width =
    let q = c.self.inside in
    let was : c.units_of-before.result ≡ units_of (level_at q.limits (c.place_of.result + 1)) =
    c.units_of-before.ensures ∙ ap units_of (c.get-in-Limit.ensures ∙ ap (level_at q.limits) (c.get.ensures.value ∙ sym c.place_of.ensures)) in
    let has = sum-there q.limits q.sums c.self.invariant.orders c.self.invariant.summed c.place_of.result (omega (arith, c.place_of.ensures, c.get.ensures.value, c.get.ensures.high)) width in
    omega (arith, was, has)

pub replace-requires-clause-fits : goal.replace-requires-clause-fits
replace-requires-clause-fits g c width =
    let q = c.self.inside in
    sum-fits q.limits q.sums c.self.invariant.orders c.self.invariant.summed c.place_of.result (omega (arith, c.place_of.ensures, c.get.ensures.value, c.get.ensures.high)) c.args.level.units c.requires.units width

pub invariant_of-self-in-Limit : goal.invariant_of-self-in-Limit
invariant_of-self-in-Limit g c =
    let q = c.self.inside in
    let place = c.place_of.result in
    let new = c.put.new.self in
    let same : place + 1 ≡ c.get-in-Limit-2.result = c.place_of.ensures ∙ sym c.get-in-Limit-2.ensures.value in
    let was : c.units_of-before.result ≡ units_of (level_at q.limits (place + 1)) =
    c.units_of-before.ensures ∙ ap units_of (c.get-in-Limit.ensures ∙ ap (level_at q.limits) (c.get.ensures.value ∙ sym c.place_of.ensures)) in
    let levels : (p : ℕ) → level_at new p ≡ (if p == place + 1 then Some c.args.level else level_at q.limits p) =
    λ p. subst (λ (n : ℕ). level_at new p ≡ (if p == n then Some c.args.level else level_at q.limits p)) (sym same) (c.put.ensures.levels p) in
    let within : place < PRICES = omega (arith, c.place_of.ensures, c.get.ensures.value, c.get.ensures.high) in
    record {
      orders = held-after q.limits q.sums c.self.invariant.orders c.self.invariant.summed place within new (Some c.args.level) levels (c.requires.orders, (omega (arith, c.place_of.ensures), omega (arith, c.place_of.ensures, c.get.ensures.value, c.get.ensures.high)), c.requires.units);
      summed = summed-put q.limits q.sums c.self.invariant.orders c.self.invariant.summed place within new c.replace.new.self (Some c.args.level) levels
          (λ width group there. subst (λ (n : ℕ). group_sum c.replace.new.self width group ≡ (if group == place / places_of width then (group_sum q.sums width group - n) + units_of (Some c.args.level) else group_sum q.sums width group)) was (c.replace.ensures.sums width group there));
    }

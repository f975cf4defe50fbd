use Rattle.std.proofs.Common.{◌≡◌, ◌==◌, ◌+◌, ◌-◌, ◌/◌, ◌<◌, ℕ, if◌then◌else◌, None, ap, sym, ◌∙◌, subst, arith}
use Rattle.xm_ladders.specs.Ladder.{units_of}
use Rattle.xm_ladders.proofs.Summing.{held-after, sum-fits, sum-there, summed-put}
use Rattle.xm_ladders.proofs.ladder.Ladder.clear.Goals as goal
use Rattle.xm_price_maps.specs.Levels.{level_at}
use Rattle.xm_price_maps.specs.Sums.{places_of, group_sum}
use Rattle.xm_price_maps.specs.declared.marks.TheConstants.{PRICES}

pub replace-requires-clause-there : goal.replace-requires-clause-there
replace-requires-clause-there g c width =
    let q = c.self.inside in
    let was : c.units_of-before.result ≡ units_of (level_at q.limits (c.place_of.result + 1)) =
    c.units_of-before.ensures ∙ ap units_of (c.get-in-Limit.ensures ∙ ap (level_at q.limits) (c.get.ensures.value ∙ sym c.place_of.ensures)) in
    let has = sum-there q.limits q.sums c.self.invariant.orders c.self.invariant.summed c.place_of.result (omega (arith, c.place_of.ensures, c.get.ensures.value, c.get.ensures.high)) width in
    omega (arith, was, has)

pub replace-requires-clause-fits : goal.replace-requires-clause-fits
replace-requires-clause-fits g c width =
    let q = c.self.inside in
    sum-fits q.limits q.sums c.self.invariant.orders c.self.invariant.summed c.place_of.result (omega (arith, c.place_of.ensures, c.get.ensures.value, c.get.ensures.high)) 0 (omega arith) width

pub invariant_of-self-in-Limit : goal.invariant_of-self-in-Limit
invariant_of-self-in-Limit g c =
    let q = c.self.inside in
    let place = c.place_of.result in
    let new = c.remove.new.self in
    let same : place + 1 ≡ c.get-in-Limit-2.result = c.place_of.ensures ∙ sym c.get-in-Limit-2.ensures.value in
    let was : c.units_of-before.result ≡ units_of (level_at q.limits (place + 1)) =
    c.units_of-before.ensures ∙ ap units_of (c.get-in-Limit.ensures ∙ ap (level_at q.limits) (c.get.ensures.value ∙ sym c.place_of.ensures)) in
    let levels : (p : ℕ) → level_at new p ≡ (if p == place + 1 then None else level_at q.limits p) =
    λ p. subst (λ (n : ℕ). level_at new p ≡ (if p == n then None else level_at q.limits p)) (sym same) (c.remove.ensures.levels p) in
    let within : place < PRICES = omega (arith, c.place_of.ensures, c.get.ensures.value, c.get.ensures.high) in
    record {
      orders = held-after q.limits q.sums c.self.invariant.orders c.self.invariant.summed place within new (None) levels tt;
      summed = summed-put q.limits q.sums c.self.invariant.orders c.self.invariant.summed place within new c.replace.new.self (None) levels
          (λ width group there. subst (λ (n : ℕ). group_sum c.replace.new.self width group ≡ (if group == place / places_of width then (group_sum q.sums width group - n) + units_of (None) else group_sum q.sums width group)) was (c.replace.ensures.sums width group there));
    }

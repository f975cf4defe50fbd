-- A sum that is raised under one name.
use Rattle.std.proofs.Common.{◌≡◌, ℕ, ◌+◌, ◌==◌, ◌&&◌, Bool, true, false, cond, if◌then◌else◌, List, Option, Some, unwrap_or, refl, ap, arith, eqb-true}
use Rattle.std.specs.Map.{lookup}
use Rattle.xm_events.specs.Life.{units_if}
use Rattle.xm_stories.specs.TakenUnits.{same_name, units_under}

both_hold : (x y : Bool) → (x && y) ≡ true → (x ≡ true) × (y ≡ true)
both_hold true y e = (refl, e)
both_hold false y e = absurd (cc)

same_sum : (units : List ((ℕ × ℕ) × ℕ)) (member reference m r : ℕ) → ((member == m) && (reference == r)) ≡ true
    → lookup (same_name (member, reference)) units ≡ lookup (same_name (m, r)) units
same_sum units member reference m r e =
    let both = both_hold (member == m) (reference == r) e in
    let p = eqb-true member m both.0 in
    let q = eqb-true reference r both.1 in
    λ k. lookup (same_name (p k, q k)) units

raised_if : (b : Bool) (x y : Option ℕ) (more : ℕ) → (b ≡ true → x ≡ y) → unwrap_or (cond b (Some (unwrap_or x 0 + more)) y) 0 ≡ (if b then more else 0) + unwrap_or y 0
raised_if true x y more e = let h : unwrap_or x 0 ≡ unwrap_or y 0 = ap (λ (o : Option ℕ). unwrap_or o 0) (e refl) in omega (arith, h)
raised_if false x y more e = omega arith

-- the sums where that of a name is raised
pub raised : (units : List ((ℕ × ℕ) × ℕ)) (member reference more m r : ℕ)
    → unwrap_or (cond (same_name (member, reference) (m, r)) (Some (units_under units member reference + more)) (lookup (same_name (m, r)) units)) 0
    ≡ units_if m r member reference more + units_under units m r
raised units member reference more m r =
    raised_if ((member == m) && (reference == r)) (lookup (same_name (member, reference)) units) (lookup (same_name (m, r)) units) more (same_sum units member reference m r)

use Rattle.std.proofs.Common.{◌≡◌, ℕ, ◌+◌, cond, List, Option, Some, unwrap_or, sym, ap, ◌∙◌}
use Rattle.std.specs.Map.{lookup}
use Rattle.xm_events.specs.Life.{units_if}
use Rattle.xm_stories.specs.TakenUnits.{same_name, units_under}
use Rattle.xm_stories.proofs.NamedSums.{raised}
use Rattle.xm_stories.proofs.sums.TakenUnits.add.Goals as goal

pub returns : goal.returns
returns g c = λ m r.
    let there = c.in_ok-insert.ensures.updates.0 (m, r) in
    let units = c.self.inside.units.entries in
    let view : c.args.self.now ≡ units = cc in
    let sum = c.units_under.ensures ∙ ap (λ (us : List ((ℕ × ℕ) × ℕ)). units_under us c.args.member c.args.reference) view in
    ap (λ (o : Option ℕ). unwrap_or o 0) there
    ∙ (λ k. unwrap_or (cond (same_name (c.args.member, c.args.reference) (m, r)) (Some (sum k + c.args.units)) (lookup (same_name (m, r)) units)) 0)
    ∙ raised units c.args.member c.args.reference c.args.units m r
    ∙ (λ k. units_if m r c.args.member c.args.reference c.args.units + units_under (sym view k) m r)

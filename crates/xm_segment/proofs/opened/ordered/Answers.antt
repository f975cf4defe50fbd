use Rattle.std.proofs.Common.{rules, ◌≡◌, ◌+◌, ◌++◌, ◌∷◌, [], ℕ, List, ap, arith, length, subst, sym}
use Rattle.std.proofs.lemmas.List.{length-append}
use Rattle.xm_segment.proofs.Boards.{left-fewer}
use Rattle.xm_segment.proofs.Seating.{rows-more}
use Rattle.xm_segment.specs.Boards.{AreLeft}
use Rattle.xm_segment.specs.Seats.{AreRows}
use Rattle.xm_segment.specs.Watches.{RowView}
use Rattle.xm_segment.proofs.opened.ordered.Goals as goal

pub loop-row-preserved : goal.loop-row-preserved
loop-row-preserved g c =
    let settings = g.S.Naming.settings in
    let workers = g.S.Naming.workers in
    let all = workers + length c.args.left.items in
    let before = c.loop-row.rows.items in
    let row = c.in-Some.row in
    let items : c.push_reserved.new.self.items ≡ before ++ row ∷ [] = search rules in
    let left : c.loop-row.left.items ≡ c.pop.new.self.items ++ row ∷ [] = search rules in
    let parts = left-fewer settings all (workers + length before) c.pop.new.self.items row (subst (AreLeft settings all (workers + length before)) left c.loop-row.invariant.left) in
    let more = rows-more settings workers (length before) before row c.loop-row.invariant.rows parts.1 in
    let long : length before + 1 ≡ length c.push_reserved.new.self.items = omega (arith, length-append before (row ∷ []), ap (λ (rs : List RowView). length rs) items) in
    let next : workers + length before + 1 ≡ workers + length c.push_reserved.new.self.items = omega (arith, long) in
    record {
      rows = subst (λ (n : ℕ). AreRows settings workers n c.push_reserved.new.self.items) long (subst (AreRows settings workers (length before + 1)) (sym items) more);
      room = search rules;
      left = subst (λ (n : ℕ). AreLeft settings all n c.pop.new.self.items) next parts.0;
    }

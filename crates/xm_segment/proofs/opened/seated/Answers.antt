use Rattle.std.proofs.Common.{rules, ◌≡◌, ◌+◌, ◌-◌, ◌++◌, ◌∷◌, [], ◌∙◌, ap, arith, length, subst, sym}
use Rattle.xm_segment.proofs.Boards.{left-fewer}
use Rattle.xm_segment.proofs.Seating.{seats-more}
use Rattle.xm_segment.specs.Boards.{AreLeft}
use Rattle.xm_segment.specs.Ledgers.{SharedRow, nothing_counted}
use Rattle.xm_segment.specs.Seats.{AreSeats}
use Rattle.xm_segment.specs.Watches.{RowView}
use Rattle.xm_segment.proofs.opened.seated.Goals as goal

pub loop-number-preserved : goal.loop-number-preserved
loop-number-preserved g c =
    let settings = g.S.Naming.settings in
    let n = c.loop-number.number in
    let all = length c.args.rows.now.items in
    let items : c.push_reserved.new.self.items ≡ c.loop-number.seats.items ++ c.new.result ∷ [] = search rules in
    let left : c.loop-number.rows.items ≡ c.pop.new.self.items ++ c.in-Some.row ∷ [] = search rules in
    let fewer = left-fewer settings all n c.pop.new.self.items c.in-Some.row (subst (AreLeft settings all n) left c.loop-number.invariant.rows) in
    let fresh = c.new.ensures ∙ ap (λ (row : RowView). record { number = n; sums = nothing_counted; row = row }) fewer.1 in
    let parts : c.loop-number.shares.parts - 1 ≡ c.args.workers + 1 - (n + 1) = omega (arith, ap (λ (r : SharedRow). r.parts) c.loop-number.invariant.shares) in
    let sums = ap (λ (r : SharedRow). r.sums) c.loop-number.invariant.shares in
    record {
      seats = subst (AreSeats settings (n + 1)) (sym items) (seats-more settings n c.loop-number.seats.items c.new.result c.loop-number.invariant.seats fresh);
      room = search rules;
      shares = c.cut.ensures.rest ∙ (λ i. record { parts = parts i; sums = sums i });
      rows = fewer.0;
    }

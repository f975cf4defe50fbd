use Rattle.std.proofs.Common.{rules, ◌≡◌, ◌+◌, ◌-◌, ◌++◌, ◌∷◌, [], ℕ, arith, subst, sym}
use Rattle.xm_segment.proofs.Boards.{left-more, no-left}
use Rattle.xm_segment.specs.Boards.{AreColumnsFrom, AreLeft}
use Rattle.xm_segment.proofs.named.rows_of.Goals as goal

pub loop-taken-init : goal.loop-taken-init
loop-taken-init g c =
    let settings = g.S.Naming.settings in
    let all : c.args.count ≡ c.args.count - 0 = omega arith in
    record {
      rows = subst (λ (n : ℕ). AreLeft settings c.args.count n c.args.rows.items) all (subst (AreLeft settings c.args.count c.args.count) (sym c.requires.none) (no-left settings c.args.count));
      room = c.requires.room;
      columns = subst (λ (n : ℕ). AreColumnsFrom 0 settings n c.args.columns) all c.requires.columns;
    }

pub loop-taken-preserved : goal.loop-taken-preserved
loop-taken-preserved g c =
    let settings = g.S.Naming.settings in
    let at = c.loop-taken in
    let number = c.args.count - 1 - at.taken in
    let below = c.loop-taken-test.true in
    let before : c.args.count - at.taken ≡ number + 1 = omega (arith, below) in
    let after : number ≡ c.args.count - (at.taken + 1) = omega (arith, below) in
    let items : c.push_reserved.new.self.items ≡ at.rows.items ++ c.last_row.result ∷ [] = search rules in
    let more = left-more settings c.args.count number at.rows.items c.last_row.result (subst (λ (n : ℕ). AreLeft settings c.args.count n at.rows.items) before at.invariant.rows) c.last_row.ensures.row in
    record {
      rows = subst (λ (n : ℕ). AreLeft settings c.args.count n c.push_reserved.new.self.items) after (subst (AreLeft settings c.args.count number) (sym items) more);
      room = search rules;
      columns = subst (λ (n : ℕ). AreColumnsFrom 0 settings n c.last_row.new.self) after c.last_row.ensures.left;
    }

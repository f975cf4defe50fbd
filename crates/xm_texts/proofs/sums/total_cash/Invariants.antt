use Rattle.std.proofs.Common.{◌≡◌, ◌≤◌, ◌*◌, ◌^◌, map, take, unsigned_abs}
use Rattle.xm_rules.specs.Step.{replay}
use Rattle.xm_texts.specs.Statement.{total_cash}
use Rattle.xm_texts.proofs.sums.total_cash.Given as goal

abbrev pub invariant-loop-desk : goal.invariant-loop-desk
invariant-loop-desk g l = record {
  cash : l.cash ≡ total_cash (map replay (take l.desk-index l.desks)) l.member;
  little : unsigned_abs l.cash ≤ l.desk-index * 2 ^ 80;
}

use Rattle.std.proofs.Common.{rules, ◌≡◌, ◌+◌, ◌++◌, ◌∷◌, [], Option, Some, arith, subst, sym, take}
use Rattle.std.specs.Prelude.{slice_get}
use Rattle.xm_rules.specs.Step.{Journal}
use Rattle.xm_segment.proofs.Closing.{closed, money-within, quantity-more}
use Rattle.xm_segment.specs.Gathering.{EachGathered, IsClosed}
use Rattle.xm_segment.proofs.gathered.Gathered.put.Goals as goal

pub returns-clause-room : goal.returns-clause-room
returns-clause-room g c =
    let was = c.requires.room in
    let totals = c.totals-totals.ensures in
    let desk = c.push_reserved-2.ensures in
    let total = c.push_reserved.ensures in
    record {
      desks = omega (arith, desk.len, was.desks);
      totals = omega (arith, total.len, was.totals);
      desks_room = omega (arith, desk.capacity, was.desks_room);
      totals_room = omega (arith, total.capacity, was.totals_room);
      quantity_within = quantity-more g.row.K c.args.self.now.quantity c.totals-totals.result.quantity was.quantity_within (omega (arith, totals.quantity, totals.limits.quantity));
      money_within = money-within g.row.K c.args.self.now.money c.from.result c.from-2.result was.money_within (search rules) (search rules);
    }

pub returns-clause-each : goal.returns-clause-each
returns-clause-each g c = λ counted at all.
    let settings = g.S.Naming.settings in
    let items : c.push_reserved-2.new.self.items ≡ c.args.self.now.desks.items ++ c.in-Some.desk ∷ [] = c.push_reserved-2.ensures.items in
    let closes : IsClosed (slice_get settings g.row.K) c.args.shares.sums (Some c.in-Some.desk) = subst (λ (j : Option Journal). IsClosed (slice_get settings g.row.K) c.args.shares.sums j) c.in-Some.is c.close.ensures.closed in
    subst (EachGathered (take (g.row.K + 1) settings) counted) (sym items) (closed settings counted c.args.self.now.desks.items g.row.K c.args.shares.sums (Some c.in-Some.desk) closes at all)

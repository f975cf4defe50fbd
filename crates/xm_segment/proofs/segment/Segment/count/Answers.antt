use Rattle.std.proofs.Common.{rules, ◌≡◌, ◌≤◌, ap, arith, length, sym}
use Rattle.std.specs.Prelude.{slice_get}
use Rattle.xm_segment.proofs.Watches.{none-at, unknown-on}
use Rattle.xm_segment.specs.Watches.{RowView}
use Rattle.xm_segment.proofs.segment.Segment.count.Goals as goal

-- past the last lane there is no security, and no watch
pub returns-in_default-clause-watches : goal.returns-in_default-clause-watches
returns-in_default-clause-watches g c =
    let past : 8 ≤ c.args.lane = search (rules, arith) in
    let long : length c.args.row.now.watches ≡ 8 = ap (λ (r : RowView). length r.watches) (sym c.row.view_is) in
    let few = c.self.invariant.few in
    let none = none-at g.S.Naming.settings c.args.lane (omega (arith, few, past)) in
    unknown-on c.args.lane (slice_get g.S.Naming.settings c.args.lane) c.args.command.now c.args.row.now.watches none (omega (arith, long, past))

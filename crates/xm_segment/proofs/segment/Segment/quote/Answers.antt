use Rattle.std.proofs.Common.{rules, ◌≡◌, ◌≤◌, ap, arith, length, refl, sym}
use Rattle.xm_segment.proofs.Watches.{none-at, unshown-on}
use Rattle.xm_segment.specs.Watches.{RowView}
use Rattle.xm_segment.proofs.segment.Segment.quote.Goals as goal

pub returns-in_default : goal.returns-in_default
returns-in_default g c =
    let past : 8 ≤ c.args.security = search (rules, arith) in
    let long : length c.args.row.now.watches ≡ 8 = ap (λ (r : RowView). length r.watches) (sym c.row.view_is) in
    let few = c.self.invariant.few in
    record {
      number = refl;
      watches = unshown-on c.args.security _ c.args.row.now.watches (none-at g.S.Naming.settings c.args.security (omega (arith, few, past))) (omega (arith, long, past));
    }

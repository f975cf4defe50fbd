use Rattle.std.proofs.Common.{subst, sym, ap}
use Rattle.xm_desk.proofs.Opens.{opening-counted}
use Rattle.xm_desk.specs.Made.{IsCounted}
use Rattle.xm_desk.specs.Settled.{Unsettled}
use Rattle.xm_desk.proofs.unsettled.market.Market.open.Goals as goal

pub invariant_of-result : goal.invariant_of-result
invariant_of-result g c =
    let is = c.in_ok-inside.ensures in
    record {
      pending = ap (λ (u : Unsettled). u.pending) is;
      counted = subst IsCounted (sym (ap (λ (u : Unsettled). u.state) is)) (opening-counted c.args.settings c.requires);
    }

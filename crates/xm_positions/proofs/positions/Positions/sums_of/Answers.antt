use Rattle.std.proofs.Common.{rules, ◌≡◌, IfSome, sym, subst}
use Rattle.xm_positions.specs.Positions.{AreSmall, sums_if_known}
use Rattle.xm_positions.proofs.Members.{known_small}
use Rattle.xm_rules.specs.Sums.{AreWithinLimits}
use Rattle.xm_positions.proofs.positions.Positions.sums_of.Goals as goal

pub returns-clause-limits : goal.returns-clause-limits
returns-clause-limits g c =
    let sums : c.copied.result ≡ sums_if_known c.args.self.now c.args.member = search rules in
    let within : AreWithinLimits c.args.self.now.trades = search rules in
    subst (λ o. IfSome o AreSmall) (sym sums) (known_small c.args.self.now c.args.member within)

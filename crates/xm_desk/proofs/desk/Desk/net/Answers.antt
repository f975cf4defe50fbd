use Rattle.std.proofs.Common.{◌≡◌, ◌∙◌, sym, subst, rules, true}
use Rattle.xm_positions.specs.Positions.{net_position}
use Rattle.xm_rules.specs.Step.{Journal, is_lawful}
use Rattle.xm_desk.proofs.Recording.{positions, unknown-net}
use Rattle.xm_desk.proofs.desk.Desk.net.Goals as goal

pub returns-clause-unknown : goal.returns-clause-unknown
returns-clause-unknown g c =
    let j = c.args.self.now in
    let lawful = subst (λ (k : Journal). is_lawful k ≡ true) c.self.view_is c.self.invariant.lawful in
    let is : c.net.result ≡ net_position (positions j lawful c.args.member) c.args.member = search rules in
    λ e. unknown-net j lawful c.args.member (sym is ∙ e)

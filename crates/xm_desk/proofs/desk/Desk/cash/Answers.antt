use Rattle.std.proofs.Common.{◌≡◌, ◌∙◌, sym, subst, rules, true}
use Rattle.xm_positions.specs.Positions.{cash_position}
use Rattle.xm_rules.specs.Step.{Journal, is_lawful}
use Rattle.xm_desk.proofs.Recording.{positions, unknown-cash}
use Rattle.xm_desk.proofs.desk.Desk.cash.Goals as goal

pub returns-clause-unknown : goal.returns-clause-unknown
returns-clause-unknown g c =
    let j = c.args.self.now in
    let lawful = subst (λ (k : Journal). is_lawful k ≡ true) c.self.view_is c.self.invariant.lawful in
    let is : c.cash.result ≡ cash_position (positions j lawful c.args.member) c.args.member = search rules in
    λ e. unknown-cash j lawful c.args.member (sym is ∙ e)

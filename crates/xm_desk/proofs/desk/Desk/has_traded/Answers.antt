use Rattle.std.proofs.Common.{◌≡◌, ◌∙◌, subst, rules, true}
use Rattle.xm_positions.specs.Positions.{has_position}
use Rattle.xm_rules.specs.Step.{Journal, is_lawful}
use Rattle.xm_desk.proofs.Recording.{known-traded, positions}
use Rattle.xm_desk.proofs.desk.Desk.has_traded.Goals as goal

pub returns : goal.returns
returns g c =
    let j = c.args.self.now in
    let lawful = subst (λ (k : Journal). is_lawful k ≡ true) c.self.view_is c.self.invariant.lawful in
    let is : c.has_traded.result ≡ has_position (positions j lawful c.args.member) c.args.member = search rules in
    is ∙ known-traded j lawful c.args.member

use Rattle.std.proofs.Common.{◌≡◌, ℕ, ℤ, List, ◌++◌, ap, rules, to_z, of_z, ◌∙◌}
use Rattle.std.specs.Int.{w128}
use Rattle.xm_texts.specs.Statement.{cash_line, name_at}
use Rattle.xm_texts.proofs.traded.push_member.Goals as goal

pub returns : goal.returns
returns g c =
    let text = c.args.text.now.items in
    let cash : ℤ = to_z w128 (of_z w128 c.total_cash.result) in
    let exact : cash ≡ c.total_cash.result = search rules in
    c.in_ok-push_cash.ensures
    ∙ ap (λ (name : List ℕ). text ++ cash_line name cash) c.member_name.ensures
    ∙ ap (λ (amount : ℤ). text ++ cash_line (name_at c.args.names.now.members c.args.member) amount) (exact ∙ c.total_cash.ensures)

use Rattle.std.proofs.Common.{◌≡◌, ℕ, List, ◌++◌, length, map, ap, arith, ◌∙◌}
use Rattle.std.specs.List.{flat_map, range_with_len}
use Rattle.xm_rules.specs.Step.{replay}
use Rattle.xm_texts.proofs.StatementLines.{lines-more}
use Rattle.xm_texts.specs.Statement.{member_line}
use Rattle.xm_texts.proofs.traded.push_members.Goals as goal

pub loop-member-preserved : goal.loop-member-preserved
loop-member-preserved g c =
    let line = member_line c.args.names.now (map replay c.args.desks.now) in
    c.in_ok-push_member.ensures ∙ ap (λ (text : List ℕ). text ++ line c.loop-member.member) c.loop-member.invariant ∙ lines-more line c.args.text.now.items c.loop-member.member

pub returns : goal.returns
returns g c =
    let line = member_line c.args.names.now (map replay c.args.desks.now) in
    let all : c.loop-member.member ≡ length c.args.names.now.members = omega (arith, c.members-member-end.ensures) in
    c.loop-member.invariant ∙ ap (λ (n : ℕ). c.args.text.now.items ++ flat_map line (range_with_len 0 n)) all

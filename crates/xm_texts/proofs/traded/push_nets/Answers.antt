use Rattle.std.proofs.Common.{ℕ, List, ◌++◌, ap, ◌∙◌}
use Rattle.xm_rules.specs.Step.{replay}
use Rattle.xm_texts.proofs.StatementLines.{lines-more}
use Rattle.xm_texts.specs.Statement.{net_line}
use Rattle.xm_texts.proofs.traded.push_nets.Goals as goal

pub loop-member-preserved : goal.loop-member-preserved
loop-member-preserved g c =
    let line = net_line c.args.names.now (replay c.args.desk.now) in
    c.in_ok-push_net.ensures ∙ ap (λ (text : List ℕ). text ++ line c.loop-member.member) c.loop-member.invariant ∙ lines-more line c.args.text.now.items c.loop-member.member

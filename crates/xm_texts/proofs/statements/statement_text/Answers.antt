use Rattle.std.proofs.Common.{ℕ, ◌++◌, map, ap, ◌∙◌}
use Rattle.std.specs.List.{flat_map}
use Rattle.xm_rules.specs.Step.{replay}
use Rattle.xm_rules.specs.declared.settings.DeskSettings.{DeskSettings}
use Rattle.xm_texts.proofs.StatementLines.{four_parts, today_of-first}
use Rattle.xm_texts.specs.Statement.{day_line, member_indices, member_line, rows_line, securities_text, today_of}
use Rattle.xm_texts.proofs.statements.statement_text.Goals as goal

pub returns : goal.returns
returns g c =
    let names = c.args.names.now in
    let states = map replay c.args.desks.now in
    let today = ap (λ (settings : DeskSettings). settings.today) c.settings.ensures.kept ∙ today_of-first c.args.desks.now c.index-desks-0.result c.requires.some c.index-desks-0.is in
    four_parts c.in_ok-text.text.items c.push_day.new.text.items c.push_securities.new.text.items c.push_members.new.text.items c.push_rows.new.text.items
    (day_line (today_of states)) (securities_text names states) (flat_map (member_line names states) (member_indices names)) (rows_line c.args.accepted c.args.refused)
    c.in_ok-text.ensures.items
    (c.in_ok-push_day.ensures ∙ ap (λ (date : ℕ). c.in_ok-text.text.items ++ day_line date) today)
    c.in_ok-push_securities.ensures.text
    c.in_ok-push_members.ensures
    c.in_ok-push_rows.ensures

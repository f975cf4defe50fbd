use Rattle.std.proofs.Common.{rules}
use Rattle.xm_rules.proofs.settings.Widths.stage_after.Goals as goal

pub returns-then-is_inside_wide : goal.returns-then-is_inside_wide
returns-then-is_inside_wide c =
    let wide = c.is_inside_wide.ensures c.args.ref2 in
    search (rules, wide)

pub returns-else-is_inside_wide : goal.returns-else-is_inside_wide
returns-else-is_inside_wide c =
    let wide = c.is_inside_wide.ensures c.args.ref2 in
    search (rules, wide)

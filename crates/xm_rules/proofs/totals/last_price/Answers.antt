use Rattle.std.proofs.Common.{◌≡◌, ◌-◌, Some, ap, length, sym, ◌∙◌}
use Rattle.std.specs.List.{slice_get}
use Rattle.std.specs.Option.{option_copied}
use Rattle.xm_rules.proofs.LastPrices.{last_price-of}
use Rattle.xm_rules.proofs.totals.last_price.Goals as goal

pub returns-in-Some : goal.returns-in-Some
returns-in-Some c =
    let ts = c.args.trades.now in
    let at : slice_get ts (length ts - 1) ≡ Some c.in-Some.trade.now = sym c.last.ensures.value ∙ ap option_copied c.in-Some.is in
    last_price-of c.args.before ts c.in-Some.trade.now at

use Rattle.std.proofs.Common.{◌≡◌, ◌∙◌, rules, find, sym}
use Rattle.std.specs.Prelude.{is_some}
use Rattle.xm_desk.proofs.Named.{any-find}
use Rattle.xm_rules.specs.Orders.{is_stop_named}
use Rattle.xm_desk.proofs.unsettled.Unsettled.has_stop.Goals as goal

pub returns-then-len-gt0 : goal.returns-then-len-gt0
returns-then-len-gt0 g c =
    let stops = c.args.self.now.state.stops in
    let found : c.is_some.result ≡ is_some (find (is_stop_named c.args.member c.args.reference) stops) = search rules in
    found ∙ sym (any-find (is_stop_named c.args.member c.args.reference) stops)

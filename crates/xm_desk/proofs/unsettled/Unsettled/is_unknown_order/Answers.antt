use Rattle.std.proofs.Common.{◌≡◌, ◌∙◌, ◌||◌, Bool, true, false, not, rules, find, sym, ap}
use Rattle.std.specs.Prelude.{is_some}
use Rattle.xm_desk.proofs.Named.{any-find}
use Rattle.xm_rules.specs.Orders.{is_named}
use Rattle.xm_rules.specs.Refusals.{has_stop}
use Rattle.xm_desk.proofs.unsettled.Unsettled.is_unknown_order.Goals as goal

pub returns-then-is_none : goal.returns-then-is_none
returns-then-is_none g c =
    let s = c.args.self.now.state in
    let found : is_some (find (is_named c.args.member c.args.reference) s.orders) ≡ false = search rules in
    let unnamed = any-find (is_named c.args.member c.args.reference) s.orders ∙ found in
    ap not c.has_stop.ensures ∙ ap (λ (b : Bool). not (b || has_stop s c.args.member c.args.reference)) (sym unnamed)

pub returns-else-is_none : goal.returns-else-is_none
returns-else-is_none g c =
    let s = c.args.self.now.state in
    let found : is_some (find (is_named c.args.member c.args.reference) s.orders) ≡ true = search rules in
    let named = any-find (is_named c.args.member c.args.reference) s.orders ∙ found in
    c.if-is_none.false ∙ ap (λ (b : Bool). not (b || has_stop s c.args.member c.args.reference)) (sym named)

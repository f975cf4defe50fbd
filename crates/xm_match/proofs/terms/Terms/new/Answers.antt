use Rattle.std.proofs.Common.{◌≡◌, ◌∙◌}
use Rattle.std.specs.Option.{option_to_list}
use Rattle.xm_match.specs.Meeting.{sweep_over, terms_of}
use Rattle.xm_match.proofs.Betters.{in_two_steps}
use Rattle.xm_match.proofs.terms.Terms.new.Goals as goal
use Rattle.xm_rules.specs.Active.{active, limits}
use Rattle.xm_rules.specs.Orders.{limit_of}
use Rattle.xm_rules.specs.Sides.{best, best_from, opposite}
use Rattle.xm_rules.specs.Sweep.{price_met}
use Rattle.xm_rules.specs.declared.orders.OrderKind.TheVariants.{Market}
use Rattle.xm_rules.specs.declared.phases.Phase.TheVariants.{Continuous}

-- src/terms.rt:41:5
pub returns : goal.returns
returns g c =
    let orders = c.args.book.now.orders in
    let incoming = c.args.incoming.now in
    let w = sweep_over orders incoming c.args.ref1 c.args.ref2 c.args.widths.now in
    let other = opposite incoming.side in
    let side = c.opposite-side.ensures in
    let limit : c.best_limit.result ≡ best other (limits (active Continuous other orders)) =
    c.best_limit.ensures ∙ (λ i. best (side i) (limits (active Continuous (side i) orders))) in
    let resting : c.better-resting.result ≡ best_from other c.args.ref1 (option_to_list (best other (limits (active Continuous other orders)))) =
    c.better-resting.ensures ∙ (λ i. best_from (side i) c.args.ref1 (option_to_list (limit i))) in
    let market : c.better-market.result ≡ price_met w Market =
    c.better-market.ensures ∙ (λ i. best_from (side i) (resting i) (option_to_list (c.limit.ensures i)))
    ∙ in_two_steps other c.args.ref1 (limits (active Continuous other orders)) (option_to_list (limit_of incoming.kind)) in
    (λ i. record (terms_of w) { market = market i })

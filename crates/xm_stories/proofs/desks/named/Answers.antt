use Rattle.std.proofs.Common.{ap, sym, ◌∙◌, arith}
use Rattle.std.specs.Option.{option_to_list}
use Rattle.xm_rules.specs.Orders.{is_named, is_stop_named}
use Rattle.xm_rules.specs.Step.{replay}
use Rattle.xm_rules.specs.declared.orders.Order.{Order}
use Rattle.xm_rules.specs.declared.orders.Stop.{Stop}
use Rattle.xm_stories.proofs.OneNamed.{once-kept, used-once}
use Rattle.xm_stories.proofs.desks.named.Goals as goal

pub returns : goal.returns
returns g c =
    let m = c.args.member in
    let r = c.args.reference in
    let s = replay c.args.desk.now in
    let once = used-once m r c.args.desk.now c.requires in (
      c.in_ok-orders.ensures ∙ ap option_to_list c.order.ensures ∙ sym (once-kept (is_named m r) (λ (o : Order). o.rest) s.orders (omega (arith, once))),
      c.in_ok-stops.ensures ∙ ap option_to_list c.stop.ensures ∙ sym (once-kept (is_stop_named m r) (λ (stop : Stop). stop.quantity) s.stops (omega (arith, once))),
    )

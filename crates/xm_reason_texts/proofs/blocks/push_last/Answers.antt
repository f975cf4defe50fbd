use Rattle.std.specs.Prelude.{codes, ◌++◌}
use Rattle.xm_reason_texts.proofs.Pushes.{behind}
use Rattle.xm_texts.proofs.Then.{ok-then}
use Rattle.xm_ticks.specs.Writing.{price_text}
use Rattle.xm_reason_texts.proofs.blocks.push_last.Goals as goal

pub returns : goal.returns
returns g c =
    let old = c.args.text.now.items in
    let first = c.push_text.new.text.items in
    let second = c.push_price.new.text.items in
    let whole = c.push_line_feed.new.text.items in
    let price = price_text c.args.last c.args.tick in
    ok-then c.push_line_feed.result c.push_line_feed.ensures
    (λ e. behind old first whole (codes "   last price ") (price ++ codes "\n") c.in_ok-push_text.ensures (behind first second whole price (codes "\n") c.in_ok-push_price.ensures e))

use Rattle.std.specs.Prelude.{codes, ◌++◌}
use Rattle.std.proofs.Common.{◌∙◌, ℕ, Option, ap}
use Rattle.xm_reason_texts.specs.Blocks.{aligned_number, aligned_price, surplus_text}
use Rattle.xm_reason_texts.proofs.Pushes.{behind}
use Rattle.xm_reasons.specs.Candidates.{surplus_of, volume_of}
use Rattle.xm_rules.specs.declared.orders.Side.{Side}
use Rattle.xm_texts.proofs.Then.{ok-then}
use Rattle.xm_reason_texts.proofs.blocks.push_candidate.Goals as goal

pub returns : goal.returns
returns g c =
    let row = c.args.candidate.now in
    let old = c.args.text.now.items in
    let t1 = c.push_aligned_price.new.text.items in
    let t2 = c.push_aligned_number.new.text.items in
    let t3 = c.push_aligned_number-2.new.text.items in
    let t4 = c.push_aligned_number-3.new.text.items in
    let t5 = c.push_surplus.new.text.items in
    let whole = c.push_line_feed.new.text.items in
    let price = aligned_price 17 row.price c.args.tick in
    let demand = aligned_number 14 row.demand in
    let supply = aligned_number 14 row.supply in
    let volume = aligned_number 14 (volume_of row) in
    let surplus = surplus_text (surplus_of row) in
    let end = codes "\n" in
    let volume_is = c.in_ok-push_aligned_number-3.ensures ∙ ap (λ (n : ℕ). t3 ++ aligned_number 14 n) c.volume.ensures in
    let surplus_is = c.in_ok-push_surplus.ensures ∙ ap (λ (s : Option (Side × ℕ)). t4 ++ surplus_text s) c.surplus.ensures in
    let e1 = c.in_ok-push_aligned_price.ensures in
    let e2 = behind old t1 t2 price demand e1 c.in_ok-push_aligned_number.ensures in
    let e3 = behind old t2 t3 (price ++ demand) supply e2 c.in_ok-push_aligned_number-2.ensures in
    let e4 = behind old t3 t4 (price ++ demand ++ supply) volume e3 volume_is in
    let e5 = behind old t4 t5 (price ++ demand ++ supply ++ volume) surplus e4 surplus_is in
    ok-then c.push_line_feed.result c.push_line_feed.ensures (λ e. behind old t5 whole (price ++ demand ++ supply ++ volume ++ surplus) end e5 e)

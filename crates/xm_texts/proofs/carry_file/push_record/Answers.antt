use Rattle.std.proofs.Common.{◌++◌, codes, refl, ap}
use Rattle.std.specs.Fmt.{decimal}
use Rattle.xm_rules.specs.Orders.{limit_of}
use Rattle.xm_texts.proofs.Leaving.{goes-on, goes-on-by_five}
use Rattle.xm_texts.specs.Carry.{given_price_text, kind_word}
use Rattle.xm_texts.specs.Statement.{name_at, side_word, validity_text}
use Rattle.xm_texts.proofs.carry_file.push_record.Goals as goal

pub returns : goal.returns
returns g c =
    let text = c.args.text.now.items in
    let o = c.args.order.now in
    let tick = c.args.tick in
    let comma = codes "," in
    let d1 = c.args.security.now ++ comma in
    let s1 = goes-on text c.args.security.now comma comma _ _ c.in_ok-push_text.ensures c.in_ok-push_comma.ensures refl in
    let d2 = d1 ++ name_at c.args.names.now.members o.member in
    let s2 = goes-on text d1 _ _ _ _ s1 c.in_ok-push_text-2.ensures c.member_name.ensures in
    let s3 = goes-on text d2 comma comma _ _ s2 c.in_ok-push_comma-2.ensures refl in
    let d3 = d2 ++ comma ++ decimal o.reference in
    let s4 = goes-on text (d2 ++ comma) _ _ _ _ s3 c.in_ok-push_number.ensures (ap decimal c.from.ensures) in
    let s5 = goes-on text d3 comma comma _ _ s4 c.in_ok-push_comma-3.ensures refl in
    let d4 = d3 ++ comma ++ side_word o.side in
    let s6 = goes-on text (d3 ++ comma) _ _ _ _ s5 c.in_ok-push_text-3.ensures c.side_word.ensures in
    let s7 = goes-on text d4 comma comma _ _ s6 c.in_ok-push_comma-4.ensures refl in
    let d5 = d4 ++ comma ++ kind_word c.args.trigger o.kind ++ comma ++ given_price_text tick (limit_of o.kind) ++ comma ++ given_price_text tick c.args.trigger in
    let s8 = goes-on-by_five text (d4 ++ comma) (kind_word c.args.trigger o.kind) comma (given_price_text tick (limit_of o.kind)) comma (given_price_text tick c.args.trigger) _ _ s7 c.in_ok-push_kind.ensures in
    let s9 = goes-on text d5 comma comma _ _ s8 c.in_ok-push_comma-5.ensures refl in
    let d6 = d5 ++ comma ++ decimal o.rest in
    let s10 = goes-on text (d5 ++ comma) _ _ _ _ s9 c.in_ok-push_number-2.ensures (ap decimal c.from-2.ensures) in
    let s11 = goes-on text d6 comma comma _ _ s10 c.in_ok-push_comma-6.ensures refl in
    let d7 = d6 ++ comma ++ validity_text o.validity in
    let s12 = goes-on text (d6 ++ comma) _ _ _ _ s11 c.in_ok-push_validity.ensures refl in
    let s13 = goes-on text d7 comma comma _ _ s12 c.in_ok-push_comma-7.ensures refl in
    let s14 = goes-on text (d7 ++ comma) _ _ _ _ s13 c.in_ok-push_text-4.ensures c.restriction_word.ensures in
    goes-on text _ (codes "\n") (codes "\n") _ _ s14 c.in_ok-push_line_feed.ensures refl

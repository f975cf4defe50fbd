use Rattle.std.proofs.Common.{◌≡◌, ℕ, ◌-◌, ◌<◌, Bool, true, false, Option, sym, ap, subst, ◌∙◌, arith}
use Rattle.xm_book.specs.Queues.{level_after, market_sum}
use Rattle.xm_match.specs.Meeting.{meets_inside, sweep_over, terms_of}
use Rattle.xm_match.specs.declared.terms.Terms.{Terms}
use Rattle.xm_match.proofs.Covering.{at_enough, at_market, at_market_outside, at_none, at_outside, fewer, on}
use Rattle.xm_match.proofs.Cuts.{IsSound}
use Rattle.xm_match.proofs.filling.fillable.Goals as goal
use Rattle.xm_match.proofs.filling.fillable.Goals.{else-market-gt0-via-then-market-gt0+else-not-meets_inside, else-market-gt0-via-else-market-gt0}
use Rattle.xm_rules.specs.Sides.{opposite}
use Rattle.xm_rules.specs.Sweep.{Sweep, other_side}
use Rattle.xm_rules.specs.declared.orders.OrderKind.{OrderKind}
use Rattle.xm_rules.specs.declared.orders.OrderKind.TheVariants.{Market, Limit}
use Rattle.xm_rules.specs.declared.orders.Side.{Side}
use Rattle.xm_rules.specs.declared.phases.Phase.TheVariants.{Continuous}

side_is : (w : Sweep) (t : Terms) (side : Side) → t ≡ terms_of w → side ≡ opposite t.incoming.side → side ≡ other_side w
side_is w t side e f = f ∙ ap (λ (u : Terms). opposite u.incoming.side) e

market_is : (w : Sweep) (side : Side) (market : ℕ) → side ≡ other_side w → market ≡ market_sum Continuous side w.orders → market ≡ market_sum Continuous (other_side w) w.orders
market_is w side market e f = f ∙ ap (λ (s : Side). market_sum Continuous s w.orders) e

level_is : (w : Sweep) (side : Side) (after : Option ℕ) (found : Option (ℕ × ℕ)) → side ≡ other_side w → found ≡ level_after Continuous side after w.orders
    → level_after Continuous (other_side w) after w.orders ≡ found
level_is w side after found e f = sym (f ∙ ap (λ (s : Side). level_after Continuous s after w.orders) e)

inside_is : (w : Sweep) (t : Terms) (kind : OrderKind) (b c : Bool) → t ≡ terms_of w → b ≡ meets_inside t kind → b ≡ c → meets_inside (terms_of w) kind ≡ c
inside_is w t kind b c e f g = sym (f ∙ ap (λ (u : Terms). meets_inside u kind) e) ∙ g

pub returns-then-not-meets_inside : goal.returns-then-not-meets_inside
returns-then-not-meets_inside g c =
    let w = sweep_over c.args.book.now.orders c.args.incoming.now c.args.ref1 c.args.ref2 c.args.widths.now in
    let t = c.new-terms.result in
    let side = side_is w t c.other_side-side.result c.new-terms.ensures c.other_side-side.ensures in
    let market = market_is w c.other_side-side.result c.market_sum-market.result side c.market_sum-market.ensures in
    sym (at_market_outside w (subst (λ (n : ℕ). 0 < n) market c.if-market-gt0.true)
    (inside_is w t Market c.meets_inside.result false c.new-terms.ensures c.meets_inside.ensures c.if-not-meets_inside.true))

pub loop-missing-init : goal.loop-missing-init
loop-missing-init g c =
    let w = sweep_over c.args.book.now.orders c.args.incoming.now c.args.ref1 c.args.ref2 c.args.widths.now in
    let sound : IsSound w = record { own = c.len.ensures.book.names; rests = c.len.ensures.book.rests } in
    let t = c.new-terms.result in
    let side = side_is w t c.other_side-side.result c.new-terms.ensures c.other_side-side.ensures in
    let market = market_is w c.other_side-side.result c.market_sum-market.result side c.market_sum-market.ensures in
    let left : c.saturating_sub-missing.result ≡ w.incoming.rest - c.market_sum-market.result =
    (let whole = c.from.ensures in let less = c.saturating_sub-missing.ensures in omega arith) in
    at_market w sound c.market_sum-market.result c.saturating_sub-missing.result market left (λ some.
    elim c.else-market-gt0.branch [
      | else-market-gt0-via-then-market-gt0+else-not-meets_inside v ↦ inside_is w t Market v.meets_inside.result true c.new-terms.ensures v.meets_inside.ensures v.if-not-meets_inside.false
      | else-market-gt0-via-else-market-gt0 v ↦ absurd (let none = v.if-market-gt0.false in omega arith)
    ])

pub returns-in-None : goal.returns-in-None
returns-in-None g c =
    let w = sweep_over c.args.book.now.orders c.args.incoming.now c.args.ref1 c.args.ref2 c.args.widths.now in
    let side = side_is w c.new-terms.result c.other_side-side.result c.new-terms.ensures c.other_side-side.ensures in
    let l = c.loop-missing in
    let none = level_is w c.other_side-side.result l.after c.level_after.result side c.level_after.ensures ∙ c.in-None.is in
    sym (at_none w l.missing l.after l.invariant none c.loop-missing-test.true)

pub returns-then-not-meets_inside-2 : goal.returns-then-not-meets_inside-2
returns-then-not-meets_inside-2 g c =
    let w = sweep_over c.args.book.now.orders c.args.incoming.now c.args.ref1 c.args.ref2 c.args.widths.now in
    let t = c.new-terms.result in
    let side = side_is w t c.other_side-side.result c.new-terms.ensures c.other_side-side.ensures in
    let l = c.loop-missing in
    let level = level_is w c.other_side-side.result l.after c.level_after.result side c.level_after.ensures ∙ c.in-Some.is in
    sym (at_outside w l.missing l.after l.invariant c.in-Some.level.0 c.in-Some.level.1 level
    (inside_is w t (Limit c.in-Some.level.0) c.meets_inside-in-Some.result false c.new-terms.ensures c.meets_inside-in-Some.ensures c.if-not-meets_inside-2.true) c.loop-missing-test.true)

pub loop-missing-smaller : goal.loop-missing-smaller
loop-missing-smaller g c =
    let w = sweep_over c.args.book.now.orders c.args.incoming.now c.args.ref1 c.args.ref2 c.args.widths.now in
    let side = side_is w c.new-terms.result c.other_side-side.result c.new-terms.ensures c.other_side-side.ensures in
    let l = c.loop-missing in
    let level = level_is w c.other_side-side.result l.after c.level_after.result side c.level_after.ensures ∙ c.in-Some.is in
    fewer w l.missing l.after l.invariant c.in-Some.level.0 c.in-Some.level.1 level

pub loop-missing-preserved : goal.loop-missing-preserved
loop-missing-preserved g c =
    let w = sweep_over c.args.book.now.orders c.args.incoming.now c.args.ref1 c.args.ref2 c.args.widths.now in
    let t = c.new-terms.result in
    let side = side_is w t c.other_side-side.result c.new-terms.ensures c.other_side-side.ensures in
    let l = c.loop-missing in
    let level = level_is w c.other_side-side.result l.after c.level_after.result side c.level_after.ensures ∙ c.in-Some.is in
    on w l.missing l.after l.invariant c.in-Some.level.0 c.in-Some.level.1 level c.saturating_sub-missing-in-Some.result c.saturating_sub-missing-in-Some.ensures
    (inside_is w t (Limit c.in-Some.level.0) c.meets_inside-in-Some.result true c.new-terms.ensures c.meets_inside-in-Some.ensures c.if-not-meets_inside-2.false)

pub returns : goal.returns
returns g c =
    let w = sweep_over c.args.book.now.orders c.args.incoming.now c.args.ref1 c.args.ref2 c.args.widths.now in
    let l = c.loop-missing in
    sym (at_enough w l.missing l.after l.invariant (let no = c.loop-missing-test.false in omega arith))

use Rattle.std.proofs.Common.{◌<◌, sym, ◌∙◌, arith, subst}
use Rattle.std.specs.Prelude.{IfSome}
use Rattle.std.proofs.lemmas.Bool.{both_ways}
use Rattle.xm_auction.specs.Narrowing.{IsNext}
use Rattle.xm_auction.proofs.Gaps.{met-market, met-reached, next-is, short-market, short-reached, takes-other}
use Rattle.xm_auction.proofs.narrowing.Gap.advance.Goals as goal
use Rattle.xm_auction.proofs.narrowing.Gap.advance.Goals.{then-reached, else-reached}
use Rattle.xm_rules.specs.declared.orders.Side.{Side}

pub returns-then-next-units-clause-kept : goal.returns-then-next-units-clause-kept
returns-then-next-units-clause-kept g c =
    let orders = c.args.book.now.orders in
    let gap = c.args.self.now in
    let next = c.in-Some.next in
    let fits = c.if-next-units.true in
    let n = c.with_group-self.result in
    takes-other c.args.phase orders gap c.requires next (next-is c.args.phase orders gap c.requires next c.in-Some.is) (elim c.if-reached.branch [
      | then-reached w ↦ met-reached c.args.phase orders gap c.requires next (sym c.reaches-reached.ensures ∙ w.if-reached.true) (let units = w.units-is in omega (arith, fits, units))
      | else-reached w ↦ met-market c.args.phase orders gap c.requires next (let units = w.units-is in omega (arith, fits, units))
    ]) n (subst (λ (s : Side). IfSome n (IsNext c.args.phase orders s gap.width next)) c.opposite.ensures c.with_group-self.ensures)

pub advance_own-requires-clause-short : goal.advance_own-requires-clause-short
advance_own-requires-clause-short g c =
    let orders = c.args.book.now.orders in
    let gap = c.args.self.now in
    let next = c.in-Some.next in
    let more = c.if-next-units.false in
    let less : gap.own.units < next.units = elim c.if-reached.branch [
      | then-reached w ↦ (let units = w.units-is in omega (arith, more, units))
      | else-reached w ↦ absurd (both_ways c.reaches-reached.result w.if-reached.false c.if-reached-2.true)
    ] in
    short-reached c.args.phase orders gap c.requires next (next-is c.args.phase orders gap c.requires next c.in-Some.is) (sym c.reaches-reached.ensures ∙ c.if-reached-2.true) less

pub advance_own-requires-then-self-clause-short : goal.advance_own-requires-then-self-clause-short
advance_own-requires-then-self-clause-short g c = short-market c.args.phase c.args.book.now.orders c.args.self.now c.requires c.if-self.true

use Rattle.std.proofs.Common.{◌≡◌, ◌<◌, ◌*◌, ◌^◌, ◌+ℤ◌, ℤ, List, length, map, take, unsigned_abs, FitsSigned, arith, rules, to_z, of_z, to_z-of_z, ap, sym, subst, ◌∙◌}
use Rattle.std.specs.Int.{w128}
use Rattle.std.proofs.lemmas.List.{take_all}
use Rattle.xm_texts.proofs.CashSums.{sum-fits, sum-little, total_cash-taken}
use Rattle.xm_texts.specs.Statement.{total_cash}
use Rattle.xm_rules.specs.Step.{Journal, replay}
use Rattle.xm_texts.proofs.sums.total_cash.Goals as goal

pub loop-desk-preserved : goal.loop-desk-preserved
loop-desk-preserved g c =
    let desks = c.args.desks.now in
    let member = c.args.member in
    let i = c.loop-desk.desk-index in
    let within : i < length desks = omega arith in
    let sum : ℤ = to_z w128 (of_z w128 (to_z w128 c.loop-desk.cash-bits +ℤ to_z w128 (of_z w128 c.cash_in-cash.result))) in
    let more : to_z w128 (of_z w128 c.cash_in-cash.result) ≡ c.cash_in-cash.result = search rules in
    let fits = sum-fits (to_z w128 c.loop-desk.cash-bits) c.cash_in-cash.result i c.loop-desk.invariant.little c.cash_in-cash.ensures.little (omega arith) in
    let exact : sum ≡ to_z w128 c.loop-desk.cash-bits +ℤ c.cash_in-cash.result =
    ap (λ (z : ℤ). to_z w128 (of_z w128 (to_z w128 c.loop-desk.cash-bits +ℤ z))) more ∙ to_z-of_z fits in
    record {
      cash = exact
          ∙ ap (λ (z : ℤ). z +ℤ c.cash_in-cash.result) c.loop-desk.invariant.cash
          ∙ ap (λ (z : ℤ). total_cash (map replay (take i desks)) member +ℤ z) c.cash_in-cash.ensures.cash
          ∙ sym (total_cash-taken member desks i c.desk-item.result within c.desk-item.is);
      little = let few = sum-little (to_z w128 c.loop-desk.cash-bits) c.cash_in-cash.result (i * 2 ^ 80) (2 ^ 80) c.loop-desk.invariant.little c.cash_in-cash.ensures.little in
          let same = ap unsigned_abs exact in
          omega (arith, few, same);
    }

pub returns : goal.returns
returns g c =
    c.loop-desk.invariant.cash ∙ ap (λ (js : List Journal). total_cash (map replay js) c.args.member) (take_all c.loop-desk.desk-index c.args.desks.now (omega arith))

pub overflow_add-cash : goal.overflow_add-cash
overflow_add-cash g c =
    let more : to_z w128 (of_z w128 c.cash_in-cash.result) ≡ c.cash_in-cash.result = search rules in
    let fits = sum-fits (to_z w128 c.loop-desk.cash-bits) c.cash_in-cash.result c.loop-desk.desk-index c.loop-desk.invariant.little c.cash_in-cash.ensures.little (omega arith) in
    subst (λ (z : ℤ). FitsSigned w128 (to_z w128 c.loop-desk.cash-bits +ℤ z)) (sym more) fits

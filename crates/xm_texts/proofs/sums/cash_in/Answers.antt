use Rattle.std.proofs.Common.{◌≡◌, ◌*◌, ◌*ℤ◌, ◌-ℤ◌, ◌∙◌, pos, Some, FitsSigned, unsigned_abs, arith, rules, to_z, of_z, to_z-of_z, ap}
use Rattle.std.specs.Int.{w128, w64}
use Rattle.std.specs.Prelude.{nat_lt}
use Rattle.xm_positions.specs.Positions.{cash_position}
use Rattle.xm_rules.specs.Step.{replay}
use Rattle.xm_rules.specs.Sums.{paid, received}
use Rattle.xm_texts.proofs.CashSums.{given_if, scaled, scaled-fits, scaled-little}
use Rattle.xm_texts.proofs.sums.cash_in.Goals as goal

pub returns-in-Some-clause-cash : goal.returns-in-Some-clause-cash
returns-in-Some-clause-cash g c =
    let s = replay c.args.desk.now in
    let member = c.args.member in
    let money : to_z w128 (of_z w128 c.from.result) ≡ c.in-Some.cash = search rules in
    let size : to_z w128 (of_z w128 c.from-in-Some.result) ≡ pos c.get.result = search rules in
    let fits : FitsSigned w64 c.in-Some.cash = search rules in
    let given : Some c.in-Some.cash ≡ cash_position (record { members = c.args.desk.now.settings.members; trades = s.trades }) member = search rules in
    let is = given_if (nat_lt member c.args.desk.now.settings.members) c.in-Some.cash (pos (received member s.trades) -ℤ pos (paid member s.trades)) given in
    let tick : c.get.result ≡ s.settings.tick = search rules in
    (λ i. to_z w128 (of_z w128 (money i *ℤ size i)))
    ∙ to_z-of_z (scaled-fits c.in-Some.cash c.get.result fits c.get.ensures.high)
    ∙ scaled c.in-Some.cash (received member s.trades) (paid member s.trades) c.get.result is
    ∙ (λ i. pos (received member s.trades * tick i) -ℤ pos (paid member s.trades * tick i))

pub returns-in-Some-clause-little : goal.returns-in-Some-clause-little
returns-in-Some-clause-little g c =
    let money : to_z w128 (of_z w128 c.from.result) ≡ c.in-Some.cash = search rules in
    let size : to_z w128 (of_z w128 c.from-in-Some.result) ≡ pos c.get.result = search rules in
    let fits : FitsSigned w64 c.in-Some.cash = search rules in
    let exact = (λ i. to_z w128 (of_z w128 (money i *ℤ size i))) ∙ to_z-of_z (scaled-fits c.in-Some.cash c.get.result fits c.get.ensures.high) in
    let same = ap unsigned_abs exact in
    omega (arith, same, scaled-little c.in-Some.cash c.get.result fits c.get.ensures.high)

use Rattle.xm_reasons.specs.Candidates.{descending}
use Rattle.xm_reasons.proofs.InOrder.{falling, in-order}
use Rattle.xm_rules.specs.declared.orders.Side.TheVariants.{Buy}
use Rattle.xm_reasons.proofs.laws.candidates_stand_once_each.Goals as goal

pub returns : goal.returns
returns c = record {
  falling = λ prices. let i = in-order Buy prices in falling (descending prices) i.falls;
  all = λ prices price at. let i = in-order Buy prices in let s = i.same in s.from price at;
  only = λ prices price at. let i = in-order Buy prices in let s = i.same in s.to price at;
}

use Rattle.xm_reasons.proofs.Ruling.{rule-gives}
use Rattle.xm_reasons.proofs.laws.the_rule_gives_the_price.Goals as goal

pub returns : goal.returns
returns c = λ s last. rule-gives s.phase s.orders last

use Rattle.xm_rules.proofs.Moments.{inside_of_kind}
use Rattle.xm_rules.specs.declared.orders.TradeKind.TheVariants as made
use Rattle.xm_rules.specs.declared.phases.CallStage.TheVariants.{Ordinary, Interrupted}
use Rattle.xm_rules.proofs.laws.journals_end_calls_inside_the_ranges_of_their_stage.Goals as goal

pub returns-clause-ordinary : goal.returns-clause-ordinary
returns-clause-ordinary c = λ j auction. inside_of_kind j (made.Auction auction Ordinary)

pub returns-clause-interrupted : goal.returns-clause-interrupted
returns-clause-interrupted c = λ j auction. inside_of_kind j (made.Auction auction Interrupted)

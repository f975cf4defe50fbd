use Rattle.xm_rules.proofs.KnownMembers.{known}
use Rattle.xm_rules.proofs.laws.lawful_journals_know_their_members.Goals as goal

pub returns-clause-orders : goal.returns-clause-orders
returns-clause-orders c = λ j lawful. (known j lawful).orders

pub returns-clause-stops : goal.returns-clause-stops
returns-clause-stops c = λ j lawful. (known j lawful).stops

pub returns-clause-trades : goal.returns-clause-trades
returns-clause-trades c = λ j lawful. (known j lawful).trades

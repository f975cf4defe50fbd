use Rattle.xm_rules.specs.declared.orders.Restriction.TheVariants.{Free, OpeningOnly, AuctionsOnly, ClosingOnly}
use Rattle.xm_ladders.proofs.ladders.SideLadders.new.Goals as goal

pub returns : goal.returns
returns g c Free k = c.new.ensures k
returns g c OpeningOnly k = c.new-2.ensures k
returns g c AuctionsOnly k = c.new-3.ensures k
returns g c ClosingOnly k = c.new-4.ensures k

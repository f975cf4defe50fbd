use Rattle.std.proofs.Common.{◌-◌, ◌≡◌, false, true}
use Rattle.xm_price_maps.specs.Set.{has}
use Rattle.xm_price_maps.proofs.Members.{last_here, last_below, none_from_last}
use Rattle.xm_price_maps.proofs.set.PriceSet.last.Goals as goal
use Rattle.xm_price_maps.specs.declared.marks.TheConstants.{PRICES}

pub returns-then-contains-clause-some : goal.returns-then-contains-clause-some
returns-then-contains-clause-some g c =
    let member : has c.args.self.now (PRICES - 1) ≡ true = cc in
    last_here c.args.self.now member

pub returns-else-contains-clause-some : goal.returns-else-contains-clause-some
returns-else-contains-clause-some g c =
    let none : has c.args.self.now (PRICES - 1) ≡ false = cc in
    last_below c.args.self.now c.next_below.result none c.next_below.ensures.some

pub returns-else-contains-clause-none : goal.returns-else-contains-clause-none
returns-else-contains-clause-none g c =
    let none : has c.args.self.now (PRICES - 1) ≡ false = cc in
    none_from_last c.args.self.now c.next_below.result none c.next_below.ensures.none

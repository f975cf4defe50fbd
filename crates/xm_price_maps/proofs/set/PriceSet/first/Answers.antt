use Rattle.std.proofs.Common.{◌≡◌, false, true}
use Rattle.xm_price_maps.specs.Set.{has}
use Rattle.xm_price_maps.proofs.Members.{first_here, first_above, none_from_first}
use Rattle.xm_price_maps.proofs.set.PriceSet.first.Goals as goal

pub returns-then-contains-clause-some : goal.returns-then-contains-clause-some
returns-then-contains-clause-some g c =
    let member : has c.args.self.now 0 ≡ true = cc in
    first_here c.args.self.now member

pub returns-else-contains-clause-some : goal.returns-else-contains-clause-some
returns-else-contains-clause-some g c =
    let none : has c.args.self.now 0 ≡ false = cc in
    first_above c.args.self.now c.next_above.result none c.next_above.ensures.some

pub returns-else-contains-clause-none : goal.returns-else-contains-clause-none
returns-else-contains-clause-none g c =
    let none : has c.args.self.now 0 ≡ false = cc in
    none_from_first c.args.self.now c.next_above.result none c.next_above.ensures.none

use Rattle.std.proofs.Common.{◌≡◌}
use Rattle.xm_price_maps.proofs.Members.{has_above, none_above}
use Rattle.xm_price_maps.proofs.set.PriceSet.next_above.Goals as goal

pub returns-in-Some-clause-some : goal.returns-in-Some-clause-some
returns-in-Some-clause-some g c =
    let pages : c.deref.result.now ≡ c.args.self.now.pages = cc in
    has_above c.args.self.now c.args.price c.in-Some.place c.requires (rw pages at c.in-Some.ensures.some)

pub returns-in-None-clause-none : goal.returns-in-None-clause-none
returns-in-None-clause-none g c =
    let pages : c.deref.result.now ≡ c.args.self.now.pages = cc in
    none_above c.args.self.now c.args.price c.requires (rw pages at c.in-None.ensures.none)

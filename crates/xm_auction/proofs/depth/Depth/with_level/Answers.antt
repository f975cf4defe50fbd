use Rattle.std.proofs.Common.{◌≡◌, ◌+◌, refl, arith}
use Rattle.xm_auction.proofs.Curves.{accepting-bounded, next-units}
use Rattle.xm_auction.proofs.depth.Depth.with_level.Goals as goal

pub overflow_add-result : goal.overflow_add-result
overflow_add-result g c =
    let d = c.args.self.now in
    let orders = c.args.book.now.orders in
    let sum = next-units c.args.phase d orders c.args.level c.requires.depth c.requires.next in
    let bound = accepting-bounded c.args.phase orders d.side c.args.level.0 c.len.ensures.book.rests in
    let within = c.len.ensures.book.within in
    omega (arith, sum, bound, within)

pub returns : goal.returns
returns g c =
    let d = c.args.self.now in
    let orders = c.args.book.now.orders in
    let sum : d.units + c.args.level.1 ≡ _ = next-units c.args.phase d orders c.args.level c.requires.depth c.requires.next in
    rw (sum, c.level_after.ensures) refl

use Rattle.std.proofs.Common.{sym, ap, ◌∙◌, Some}
use Rattle.xm_auction.specs.declared.covered.Covered.{Covered}
use Rattle.xm_auction.proofs.Crossings.{best-at_limit}
use Rattle.xm_auction.proofs.covered.Crossing.best.Goals as goal

pub returns-in-Some-limit : goal.returns-in-Some-limit
returns-in-Some-limit g c =
    let s = c.args.self.now in
    ap (λ (x : Covered). Some x) c.new.ensures
    ∙ best-at_limit c.args.phase c.args.book.now.orders s.own s.other c.requires.crossing c.in-Some-limit.price (sym c.in-None.ensures) c.in-Some-limit.is

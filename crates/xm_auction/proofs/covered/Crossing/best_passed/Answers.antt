use Rattle.std.proofs.Common.{sym, ap, ◌∙◌, Some}
use Rattle.xm_auction.specs.declared.covered.Covered.{Covered}
use Rattle.xm_auction.proofs.Crossings.{best-limit, best-next, best-nowhere, next-covers, walked}
use Rattle.xm_auction.proofs.covered.Crossing.best_passed.Goals as goal

pub new-requires : goal.new-requires
new-requires g c =
    let s = c.args.self.now in
    next-covers c.args.phase c.args.book.now.orders s.own s.other c.requires.crossing c.in-Some.level (sym c.in-Some.ensures) c.with_level-own.result c.with_level-own.ensures

pub returns-in-Some : goal.returns-in-Some
returns-in-Some g c =
    let s = c.args.self.now in
    let orders = c.args.book.now.orders in
    let w = walked c.args.phase orders s.own s.other c.requires.crossing c.requires.last c.requires.passed in
    ap (λ (x : Covered). Some x) c.new.ensures
    ∙ best-next c.args.phase orders s.own s.other c.requires.crossing w c.in-Some.level (sym c.in-Some.ensures) c.with_level-own.result c.with_level-own.ensures

pub returns-in-None-limit : goal.returns-in-None-limit
returns-in-None-limit g c =
    let s = c.args.self.now in
    let orders = c.args.book.now.orders in
    let w = walked c.args.phase orders s.own s.other c.requires.crossing c.requires.last c.requires.passed in
    best-nowhere c.args.phase orders s.own s.other c.requires.crossing w (sym c.in-None.ensures) c.in-None-limit.is

pub returns-in-Some-limit : goal.returns-in-Some-limit
returns-in-Some-limit g c =
    let s = c.args.self.now in
    let orders = c.args.book.now.orders in
    let w = walked c.args.phase orders s.own s.other c.requires.crossing c.requires.last c.requires.passed in
    ap (λ (x : Covered). Some x) c.new-in-Some-limit.ensures
    ∙ best-limit c.args.phase orders s.own s.other c.requires.crossing w c.in-Some-limit.price (sym c.in-None.ensures) c.in-Some-limit.is

use Rattle.std.proofs.Common.{◌≡◌, ◌*◌, ℕ, ap, ◌∙◌, arith, min}
use Rattle.xm_auction.specs.Narrowing.{edge}
use Rattle.xm_book.specs.Curves.{units_between}
use Rattle.xm_price_maps.specs.Sums.{places_of}
use Rattle.xm_auction.proofs.Curves.{accepting-bounded}
use Rattle.xm_auction.proofs.Within.{bound-adds}
use Rattle.xm_auction.proofs.bound.Bound.with_group.Goals as goal

pub overflow_add-result : goal.overflow_add-result
overflow_add-result g c =
    let orders = c.args.book.now.orders in
    let n = places_of c.args.width in
    let next = c.in_ok-group.group in
    let units = c.requires.units_are in
    let more : c.units_between-units.result ≡ units_between c.args.phase c.args.side (min next c.args.self.now.group * n) n orders =
    c.units_between-units.ensures ∙ ap (λ (m : ℕ). units_between c.args.phase c.args.side (m * n) n orders) c.min.ensures in
    let adds = bound-adds c.args.phase orders c.args.side c.args.width c.args.self.now.group next c.in_ok-group.ensures.next in
    let bounded = accepting-bounded c.args.phase orders c.args.side (edge c.args.side (next * n)) c.len.ensures.book.rests in
    let within = c.len.ensures.book.within in
    omega (arith, units, more, adds, bounded, within)

pub returns : goal.returns
returns g c =
    let orders = c.args.book.now.orders in
    let n = places_of c.args.width in
    let next = c.in_ok-group.group in
    let units = c.requires.units_are in
    let more : c.units_between-units.result ≡ units_between c.args.phase c.args.side (min next c.args.self.now.group * n) n orders =
    c.units_between-units.ensures ∙ ap (λ (m : ℕ). units_between c.args.phase c.args.side (m * n) n orders) c.min.ensures in
    let adds = bound-adds c.args.phase orders c.args.side c.args.width c.args.self.now.group next c.in_ok-group.ensures.next in
    record {
      bound = record {
        in_range = c.in_ok-group.ensures.high;
        units_are = omega (arith, units, more, adds);
      };
      after = c.in_ok-group.ensures.next;
    }

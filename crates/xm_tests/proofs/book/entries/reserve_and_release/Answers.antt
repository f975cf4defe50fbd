use Rattle.std.proofs.Common.{rules, List, ◌∷◌, arith}
use Rattle.xm_book.proofs.Reserving.{counted-cons, reserved-there}
use Rattle.xm_book.specs.Places.{SamePlaces, same_place}
use Rattle.xm_book.specs.TimeList.{Reserves}
use Rattle.xm_book.specs.declared.places.Place.{Place}
use Rattle.xm_tests.proofs.book.entries.reserve_and_release.Goals as goal

-- one that is given up again leaves the others
given-up : (p : Place) (old between new : List Place) → SamePlaces between (p ∷ old) → SamePlaces between (p ∷ new) → SamePlaces new old
given-up p old between new a b =
    let l = a.length in
    let m = b.length in
    record {
      length = omega arith;
      counts = λ q. omega (arith, a.counts q, b.counts q, counted-cons (same_place q) p old, counted-cons (same_place q) p new);
    }

pub release-requires : goal.release-requires
release-requires g c =
    let reserves : Reserves c.args.place.now c.args.book.now c.reserve_for.new.self = search rules in
    search (rules, reserved-there _ _ _ reserves.places)

pub returns-clause-places : goal.returns-clause-places
returns-clause-places g c =
    let reserves : Reserves c.args.place.now c.args.book.now c.reserve_for.new.self = search rules in
    given-up c.args.place.now c.args.book.now.reserved c.reserve_for.new.self.reserved c.release.new.self.reserved reserves.places c.release.ensures.places

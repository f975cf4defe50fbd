use Rattle.std.proofs.Common.{◌∙◌, rules, List}
use Rattle.xm_book.proofs.Reserving.{reserved-there}
use Rattle.xm_book.specs.Places.{SamePlaces}
use Rattle.xm_book.specs.TimeList.{Reserves}
use Rattle.xm_book.specs.declared.places.Place.{Place}
use Rattle.xm_tests.proofs.book.entries.reserve_twice.Goals as goal

same-as : (ps qs rs : List Place) → SamePlaces ps qs → SamePlaces qs rs → SamePlaces ps rs
same-as ps qs rs a b = record { length = a.length ∙ b.length; counts = λ p. a.counts p ∙ b.counts p }

pub release-requires : goal.release-requires
release-requires g c =
    let reserves : Reserves c.args.place.now c.args.book.now c.reserve_for.new.self = search rules in
    let same = same-as _ _ _ c.reserve_and_release-second.ensures.places reserves.places in
    search (rules, reserved-there _ _ _ same)

-- Reserved places, as a clause sees them: after all that was done to them, the last first.
use Rattle.std.specs.Prelude.{◌≡◌, Bool, if◌then◌else◌, List, [], ◌∷◌, count_by}
use Rattle.xm_book.specs.Places.{same_place}
use Rattle.xm_book.specs.declared.places.PlaceChange.{PlaceChange, PlaceChange-F, fold-PlaceChange}
use Rattle.xm_book.specs.declared.places.PlaceChange.TheOpen.{Nothing, Reserved, Released}
use Rattle.xm_book.specs.declared.places.Place.{Place}

-- without one of those that are this place
abbrev pub without_one : Place → List Place → List Place
without_one place [] = []
without_one place (p ∷ ps) = if same_place place p then ps else p ∷ without_one place ps

abbrev pub after : PlaceChange-F (List Place) → List Place
after Nothing = []
after (Reserved place before) = place.value ∷ before.value
after (Released place before) = without_one place.value before.value

unfoldable pub held : PlaceChange → List Place
held change = fold-PlaceChange (List Place) after change

-- the second list holds the place once more than the first
pub record Gains (place : Place) (old new : List Place) : Type 0 where
  pub counts : (f : Place → Bool) → count_by f new ≡ count_by f (place ∷ old)

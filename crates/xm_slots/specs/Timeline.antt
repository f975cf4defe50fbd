-- The list after all that was done to it.
use Rattle.std.specs.Prelude.{List, [], ◌∷◌, ◌++◌, filter, map}
use Rattle.xm_slots.specs.Listing.{is_other_key, replaced_by}
use Rattle.xm_slots.specs.declared.listing.Change.{Change, Change-F, fold-Change}
use Rattle.xm_slots.specs.declared.listing.Change.TheOpen.{Nothing, Joined, Left, Replaced}
use Rattle.xm_slots.specs.declared.listing.Listed.{Listed}

abbrev pub list_after : {I : Type 0} → Change-F I (List (Listed I)) → List (Listed I)
list_after Nothing = []
list_after (Joined x before) = before.value ++ x.value ∷ []
list_after (Left key before) = filter (is_other_key key.value) before.value
list_after (Replaced x before) = map (replaced_by x.value) before.value

unfoldable pub listing_of : {I : Type 0} → Change I → List (Listed I)
listing_of {I} change = fold-Change I (List (Listed I)) list_after change

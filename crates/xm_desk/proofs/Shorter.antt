-- A part of a list is no longer than the list.
use Rattle.std.proofs.Common.{◌≤◌, Bool, List, length, arith}
use Rattle.std.specs.Prelude.{filter}
use Rattle.std.proofs.lemmas.List.Sums.{count_by-le-length, length-filter}

pub filter-shorter : {X : Type 0} (p : X → Bool) (xs : List X) → length (filter p xs) ≤ length xs
filter-shorter p xs = omega (arith, length-filter p xs, count_by-le-length p xs)

use Rattle.std.proofs.Common.{◌≡◌, length}
use Rattle.xm_explanations.proofs.running.places_of.Given as goal

abbrev pub invariant-loop-rows : goal.invariant-loop-rows
invariant-loop-rows l = length l.numbers.items ≡ l.rows-index

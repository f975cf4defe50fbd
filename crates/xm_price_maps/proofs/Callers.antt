-- What callers of levels cite.
use Rattle.std.proofs.Common.{ℕ, ◌+◌, arith}
use Rattle.xm_price_maps.specs.Levels.{HasLevelRoom, LevelsView}

-- room for more is room for fewer
pub room-less : {L : Type 0} (l : LevelsView L) (n : ℕ) → HasLevelRoom l (n + 1) → HasLevelRoom l n
unfolding HasLevelRoom
room-less l n r = omega (arith, r)

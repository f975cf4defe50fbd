-- Price ranges.
use Rattle.std.specs.Prelude.{ℕ, ◌+◌, ◌-◌, ◌*◌, Bool, if◌then◌else◌, nat_le}

-- a price within so many thousandths of a reference price, edges included
abbrev pub inside : ℕ → ℕ → ℕ → Bool
inside price reference width = nat_le (1000 * ((price - reference) + (reference - price))) (width * reference)

-- a price, kept between two others
abbrev pub kept_between : ℕ → ℕ → ℕ → ℕ
kept_between low high price = if nat_le price low then low else (if nat_le high price then high else price)
